use Rattle.std.proofs.Common.{arith}
use Rattle.clause_arena.proofs.Views.{clause_held_by}
use Rattle.clause_arena.proofs.reading.number_in.Goals as goal

pub read-requires : goal.read-requires
read-requires c = omega (arith, c.requires.sound.laid.inside c.args.clause c.requires.held)

pub overflow_add-clause : goal.overflow_add-clause
overflow_add-clause c = omega (arith, c.requires.sound.laid.inside c.args.clause c.requires.held)

pub returns-clause-numbered : goal.returns-clause-numbered
returns-clause-numbered c =
    let a = c.args in
    clause_held_by a.vars a.words.now a.refs.now a.clause c.read.result c.requires.sound c.requires.held
    c.read.ensures
