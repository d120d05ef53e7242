use Rattle.clause_arena.proofs.Views.{lits_listed}
use Rattle.clause_arena.proofs.reading.code_in.Goals as goal

pub returns-clause-listed : goal.returns-clause-listed
returns-clause-listed c =
    let a = c.args in
    lits_listed a.vars a.words.now a.refs.now a.clause a.at c.read.result c.requires.sound c.requires.held
    c.requires.at c.read.ensures
