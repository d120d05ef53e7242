-- The formula of a question encodes it.
use Rattle.std.proofs.Common.{List, [], ◌∷◌}
use Rattle.ios_ast.specs.declared.file.File.{File}
use Rattle.route_record.specs.declared.tracked.Tracked.{Tracked}
use Rattle.log_answers.specs.Answers.{IsEncodedBy}
use Rattle.question_lang.specs.declared.question.Question.{Question}
use Rattle.question_search.specs.declared.formula.Formula.{Formula}
use Rattle.question_search.specs.Formulas.{IsFormula}
use Rattle.question_search.proofs.Formulas.{encodes}

pub formula_encodes : (files : List File) (tracked : Tracked) (question : Question) (formula : Formula) →
    IsFormula files tracked question formula → IsEncodedBy files question formula.cnf.clauses
formula_encodes files tracked question formula is =
    let both = encodes files tracked question formula is in record {
      nodes = formula.encoding.terms.nodes;
      root = formula.encoding.root;
      are = is.clauses;
      encodes = (λ can. both.0 (is.equal.0 can), λ breakable. is.equal.1 (both.1 breakable));
    }
