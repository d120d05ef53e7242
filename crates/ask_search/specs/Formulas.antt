-- Asks as clauses.
use Rattle.std.specs.Prelude.{◌≡◌, ◌↔◌, List, [], ◌∷◌, length}
use Rattle.cnf_blaster.specs.Cnf.{clauses_of, nodes_of}
use Rattle.cnf_blaster.specs.Meaning.{CanBeTrue, IsSatisfiable}
use Rattle.cnf_blaster.specs.Proper.{IsProper}
use Rattle.ios_ast.specs.declared.file.File.{File}
use Rattle.route_record.specs.declared.tracked.Tracked.{Tracked}
use Rattle.export_asks.specs.declared.ask.Ask.{Ask}
use Rattle.ask_search.specs.declared.formula.AskFormula.{AskFormula}
use Rattle.ask_search.specs.Encoded.{IsAskEncoding}

-- the terms encode the ask, and the clauses are those of the root
pub record IsAskFormula (files : List File) (tracked : Tracked) (ask : Ask) (formula : AskFormula) : Type 0 where
  pub encoding : IsAskEncoding files tracked ask formula.encoding
  pub clauses : formula.cnf.clauses ≡ clauses_of formula.encoding.terms.nodes (formula.encoding.root ∷ [])
  pub nodes : formula.cnf.node_of ≡ nodes_of formula.encoding.terms.nodes (formula.encoding.root ∷ [])
  pub count : formula.cnf.vars ≡ length formula.cnf.node_of
  pub proper : IsProper formula.cnf
  pub equal : IsSatisfiable formula.cnf.clauses ↔ CanBeTrue formula.encoding.terms.nodes (formula.encoding.root ∷ [])
