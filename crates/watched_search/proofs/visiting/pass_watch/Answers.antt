use Rattle.clause_arena.specs.Watched.{own}
use Rattle.clause_arena.proofs.Walks.{code_below}
use Rattle.watched_search.proofs.Walks.{walk_past}
use Rattle.watched_search.proofs.visiting.pass_watch.Goals as goal

pub returns-clause-walked : goal.returns-clause-walked
returns-clause-walked c = λ before at_w walk.
    let a = c.args.arena.now in
    walk_past a c.words_are_sound.ensures (own a c.args.w)
    (code_below a.vars a.words a.refs c.args.w c.words_are_sound.ensures c.requires.stands) c.args.assigned.now.lits
    before c.args.w c.requires.stands at_w walk c.requires.other
