use Rattle.std.specs.Prelude.{Option, IfSome}
use Rattle.std.proofs.Common.{sym, ◌∙◌, ap, subst, inr, arith}
use Rattle.clause_arena.specs.declared.names.Watch.{Watch}
use Rattle.clause_arena.specs.Links.{word}
use Rattle.clause_arena.specs.Store.{store}
use Rattle.clause_arena.specs.Watched.{place, place_or, own, Stands, watch_at}
use Rattle.clause_arena.proofs.Walks.{leads, low_or_high, fewer, code_below, place_within}
use Rattle.clause_arena.proofs.walking.next_in.Goals as goal

pub place_of-requires : goal.place_of-requires
place_of-requires c =
    let a = c.args in
    omega (arith, place_within a.vars a.words.now a.refs.now a.w c.requires.sound c.requires.stands)

pub read-requires : goal.read-requires
read-requires c =
    let a = c.args in
    omega (arith, c.place_of.ensures, place_within a.vars a.words.now a.refs.now a.w c.requires.sound c.requires.stands)

pub watch_of-requires : goal.watch_of-requires
watch_of-requires c =
    let a = c.args in
    let s = store a.vars a.words.now a.refs.now in
    rw (c.read.ensures, c.place_of.ensures)
    (low_or_high a.vars a.words.now a.refs.now (own s a.w) (place a.w) c.requires.sound
    (code_below a.vars a.words.now a.refs.now a.w c.requires.sound c.requires.stands) (inr c.requires.stands.listed))

pub returns-clause-head : goal.returns-clause-head
returns-clause-head c =
    let a = c.args in
    let s = store a.vars a.words.now a.refs.now in
    let l = leads a.vars a.words.now a.refs.now (own s a.w) (place a.w) c.requires.sound
    (code_below a.vars a.words.now a.refs.now a.w c.requires.sound c.requires.stands) (inr c.requires.stands.listed) in
    ap place_or (c.watch_of.ensures ∙ ap watch_at (c.read.ensures ∙ ap (word a.words.now) c.place_of.ensures)) ∙ l.head

pub returns-clause-stands : goal.returns-clause-stands
returns-clause-stands c =
    let a = c.args in
    let s = store a.vars a.words.now a.refs.now in
    let l = leads a.vars a.words.now a.refs.now (own s a.w) (place a.w) c.requires.sound
    (code_below a.vars a.words.now a.refs.now a.w c.requires.sound c.requires.stands) (inr c.requires.stands.listed) in
    subst (λ (w : Option Watch). IfSome w (Stands s (own s a.w)))
    (sym (c.watch_of.ensures ∙ ap watch_at (c.read.ensures ∙ ap (word a.words.now) c.place_of.ensures))) l.stands

pub returns-clause-fewer : goal.returns-clause-fewer
returns-clause-fewer c =
    let a = c.args in
    let s = store a.vars a.words.now a.refs.now in
    λ before e. fewer s (own s a.w) a.w before
    (c.requires.sound.linked.threads (own s a.w)
    (code_below a.vars a.words.now a.refs.now a.w c.requires.sound c.requires.stands)) c.requires.stands.listed e
