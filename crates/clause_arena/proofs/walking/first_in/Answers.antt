use Rattle.std.specs.Prelude.{Option, IfSome, refl}
use Rattle.std.proofs.Common.{sym, ◌∙◌, ap, subst, inl}
use Rattle.clause_arena.specs.declared.names.Watch.{Watch}
use Rattle.clause_arena.specs.Store.{store}
use Rattle.clause_arena.specs.Watched.{place_or, Stands, watch_at}
use Rattle.clause_arena.proofs.Walks.{leads, low_or_high}
use Rattle.clause_arena.proofs.walking.first_in.Goals as goal

pub watch_of-requires : goal.watch_of-requires
watch_of-requires c =
    let a = c.args in
    rw c.read.ensures (low_or_high a.vars a.words.now a.refs.now a.code a.code c.requires.sound c.requires.below
    (inl refl))

pub returns-clause-head : goal.returns-clause-head
returns-clause-head c =
    let a = c.args in
    let l = leads a.vars a.words.now a.refs.now a.code a.code c.requires.sound c.requires.below (inl refl) in
    ap place_or (c.watch_of.ensures ∙ ap watch_at c.read.ensures) ∙ l.head

pub returns-clause-stands : goal.returns-clause-stands
returns-clause-stands c =
    let a = c.args in
    let l = leads a.vars a.words.now a.refs.now a.code a.code c.requires.sound c.requires.below (inl refl) in
    subst (λ (w : Option Watch). IfSome w (Stands (store a.vars a.words.now a.refs.now) a.code))
    (sym (c.watch_of.ensures ∙ ap watch_at c.read.ensures)) l.stands
