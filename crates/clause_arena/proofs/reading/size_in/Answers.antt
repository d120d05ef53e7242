use Rattle.std.proofs.Common.{sym, ◌∙◌, arith}
use Rattle.clause_arena.proofs.Views.{lits_count}
use Rattle.clause_arena.proofs.reading.size_in.Goals as goal

pub read-requires : goal.read-requires
read-requires c = omega (arith, c.requires.sound.laid.inside c.args.clause c.requires.held)

pub returns-clause-count : goal.returns-clause-count
returns-clause-count c =
    let a = c.args in
    lits_count a.vars a.words.now a.refs.now a.clause c.requires.sound c.requires.held ∙ sym c.read.ensures
