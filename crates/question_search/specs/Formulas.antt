-- Questions as clauses.
use Rattle.std.specs.Prelude.{◌≡◌, ◌↔◌, List, [], ◌∷◌, length}
use Rattle.cnf_blaster.specs.Cnf.{clauses_of, nodes_of}
use Rattle.cnf_blaster.specs.Meaning.{CanBeTrue, IsSatisfiable}
use Rattle.cnf_blaster.specs.Proper.{IsProper}
use Rattle.ios_ast.specs.declared.file.File.{File}
use Rattle.route_record.specs.declared.tracked.Tracked.{Tracked}
use Rattle.question_lang.specs.declared.question.Question.{Question}
use Rattle.sliced_routings.specs.Plans.{IsCoarsestPlan}
use Rattle.routing_encoder.specs.Encoded.{IsEncoding}
use Rattle.question_search.specs.declared.formula.Formula.{Formula}

-- the terms encode the question, over the coarsest plan that fits the files; and the clauses are those of the root
pub record IsFormula (files : List File) (tracked : Tracked) (question : Question) (formula : Formula) : Type 0 where
  pub encoding : IsEncoding files tracked question formula.encoding
  pub coarsest : IsCoarsestPlan files formula.encoding.world.plan
  pub clauses : formula.cnf.clauses ≡ clauses_of formula.encoding.terms.nodes (formula.encoding.root ∷ [])
  pub nodes : formula.cnf.node_of ≡ nodes_of formula.encoding.terms.nodes (formula.encoding.root ∷ [])
  pub count : formula.cnf.vars ≡ length formula.cnf.node_of
  pub proper : IsProper formula.cnf
  pub equal : IsSatisfiable formula.cnf.clauses ↔ CanBeTrue formula.encoding.terms.nodes (formula.encoding.root ∷ [])
