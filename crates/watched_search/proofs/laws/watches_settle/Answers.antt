use Rattle.std.proofs.Common.{length, arith}
use Rattle.watched_search.proofs.Settled.{none_empty, full, settled_now}
use Rattle.watched_search.proofs.laws.watches_settle.Goals as goal

pub returns-clause-filled : goal.returns-clause-filled
returns-clause-filled c =
    none_empty c.args.arena.now c.words_are_sound.ensures c.args.assigned.now.lits c.args.assigned.now.levels
    0 c.requires

pub returns-clause-full : goal.returns-clause-full
returns-clause-full c =
    full c.args.arena.now c.words_are_sound.ensures c.args.assigned.now.lits c.args.assigned.now.levels 0
    c.requires

pub returns-clause-settled : goal.returns-clause-settled
returns-clause-settled c = λ kept.
    settled_now c.args.arena.now c.words_are_sound.ensures c.args.assigned.now.lits c.args.assigned.now.levels
    (length c.args.assigned.now.lits) kept (omega arith)
