use Rattle.pair_search.proofs.Formulas.{unsat_same}
use Rattle.pair_search.proofs.answer.verdict_of.Goals as goal

pub returns-in-Unsat-clause-right : goal.returns-in-Unsat-clause-right
returns-in-Unsat-clause-right c =
    unsat_same c.args.left.now c.args.right.now c.args.ask.now c.args.formula.now c.requires.formula
    (rw c.in-Unsat.is at c.requires.unsat)
