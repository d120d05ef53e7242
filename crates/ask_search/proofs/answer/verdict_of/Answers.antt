use Rattle.ask_search.proofs.Formulas.{unsat_holds}
use Rattle.ask_search.proofs.answer.verdict_of.Goals as goal

pub returns-in-Unsat-clause-right : goal.returns-in-Unsat-clause-right
returns-in-Unsat-clause-right c =
    unsat_holds c.args.net.now.files c.args.net.now.tracked c.args.ask.now c.args.formula.now c.requires.formula
    (rw c.in-Unsat.is at c.requires.unsat)
