use Rattle.log_questions.proofs.Encoding.{formula_encodes}
use Rattle.log_questions.proofs.checking.made_clauses.Goals as goal

pub returns : goal.returns
returns c =
    formula_encodes c.args.net.now.files c.args.net.now.tracked c.args.question.now c.in_ok-formula.formula
    c.in_ok-formula.ensures.formula
