use Rattle.watched_search.proofs.Totals.{totals}
use Rattle.watched_search.proofs.laws.totals_hold.Goals as goal

pub returns : goal.returns
returns c =
    let s = c.args.assigned.now in
    totals c.args.arena.now c.words_are_sound.ensures s.lits s.levels s.vars c.requires.vars c.requires.kept
    c.requires.total
