use Rattle.watched_search.proofs.Moved.{trail_moved, kept_moved, view_moved}
use Rattle.watched_search.proofs.Walks.{walk_moved}
use Rattle.clause_arena.specs.Watched.{own}
use Rattle.watched_search.proofs.visiting.move_watch.Goals as goal

pub returns-clause-trail : goal.returns-clause-trail
returns-clause-trail c =
    let s = c.requires.stands in
    let ls = c.args.assigned.now in
    trail_moved c.args.arena.now c.watch_move-next.new.self c.args.before c.args.w c.args.to
    c.words_are_sound.ensures c.words_are_sound-2.ensures c.watch_move-next.ensures.moves s.held s.low
    c.requires.not_false.0 c.requires.not_false.1 ls.vars ls.lits ls.levels ls.reasons c.requires.trail

pub returns-clause-kept : goal.returns-clause-kept
returns-clause-kept c =
    let s = c.requires.stands in
    let ls = c.args.assigned.now in
    kept_moved c.args.arena.now c.watch_move-next.new.self c.args.before c.args.w c.args.to
    c.words_are_sound.ensures c.words_are_sound-2.ensures c.watch_move-next.ensures.moves s.held s.low
    c.requires.not_false.0 c.requires.not_false.1 ls.lits c.requires.is_false c.requires.not_false.2 ls.levels
    c.args.looked_at c.requires.kept

pub returns-clause-walked : goal.returns-clause-walked
returns-clause-walked c = λ walk.
    walk_moved c.args.arena.now c.watch_move-next.new.self c.args.before c.args.w c.args.to
    (own c.args.arena.now c.args.w) c.words_are_sound.ensures c.words_are_sound-2.ensures
    c.watch_move-next.ensures.moves c.requires.stands c.requires.not_false.0 c.requires.not_false.1 c.requires.before
    c.args.assigned.now.lits c.requires.is_false walk

pub returns-clause-view : goal.returns-clause-view
returns-clause-view c =
    view_moved c.args.arena.now c.watch_move-next.new.self c.args.before c.args.w c.args.to c.words_are_sound.ensures
    c.words_are_sound-2.ensures c.watch_move-next.ensures.moves c.requires.stands.held c.requires.stands.low
    c.requires.not_false.0 c.requires.not_false.1
