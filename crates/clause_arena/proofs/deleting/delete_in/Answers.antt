use Rattle.std.specs.Prelude.{ℕ, ◌≡◌, ◌+◌, ◌==◌, not, List, length, filter}
use Rattle.std.proofs.Common.{sym, ◌∙◌, ap, subst}
use Rattle.clause_arena.specs.Links.{word, places}
use Rattle.clause_arena.specs.Store.{IsSound, store}
use Rattle.clause_arena.specs.Held.{clauses}
use Rattle.clause_arena.specs.Deleted.{Deletes, IsFreed}
use Rattle.clause_arena.proofs.Unlinks.{less, count_kept}
use Rattle.clause_arena.proofs.Views.{clauses_less}
use Rattle.clause_arena.proofs.deleting.delete_in.Goals as goal

pub returns-clause-sound : goal.returns-clause-sound
returns-clause-sound c =
    let a = c.args in
    let l = less a.vars a.words.now c.unwatch.new.words a.refs.now.items a.clause c.requires.sound c.requires.held
    c.unwatch.ensures.len (subst (λ (xs : List ℕ). IsFreed a.vars (word a.words.now) (word c.unwatch.new.words) xs
    (places a.words.now) a.clause) c.deref.ensures.value c.unwatch.ensures.freed) in
    subst (λ (xs : List ℕ). IsSound a.vars c.unwatch.new.words xs) (sym c.forget.ensures) l.sound

pub returns-clause-count : goal.returns-clause-count
returns-clause-count c =
    let a = c.args in
    ap length c.truncate.ensures.items
    ∙ count_kept a.moved.now.items a.refs.now.items c.forget.new.refs.items a.clause c.len.result c.requires.count
    c.forget.ensures (c.len.ensures ∙ c.forget.new.refs.ok.0)

pub returns-clause-deletes : goal.returns-clause-deletes
returns-clause-deletes c =
    let a = c.args in
    let l = less a.vars a.words.now c.unwatch.new.words a.refs.now.items a.clause c.requires.sound c.requires.held
    c.unwatch.ensures.len (subst (λ (xs : List ℕ). IsFreed a.vars (word a.words.now) (word c.unwatch.new.words) xs
    (places a.words.now) a.clause) c.deref.ensures.value c.unwatch.ensures.freed) in
    subst (λ (xs : List ℕ). Deletes (store a.vars a.words.now a.refs.now.items)
    (store a.vars c.unwatch.new.words xs) a.clause) (sym c.forget.ensures) l.deletes

pub returns-clause-clauses : goal.returns-clause-clauses
returns-clause-clauses c =
    let a = c.args in
    let l = less a.vars a.words.now c.unwatch.new.words a.refs.now.items a.clause c.requires.sound c.requires.held
    c.unwatch.ensures.len (subst (λ (xs : List ℕ). IsFreed a.vars (word a.words.now) (word c.unwatch.new.words) xs
    (places a.words.now) a.clause) c.deref.ensures.value c.unwatch.ensures.freed) in
    subst (λ (xs : List ℕ). clauses (store a.vars c.unwatch.new.words xs)
    ≡ filter (λ k. not (k.0 == word a.words.now (a.clause + 1))) (clauses (store a.vars a.words.now a.refs.now.items)))
    (sym c.forget.ensures)
    (clauses_less a.vars a.words.now a.refs.now.items c.unwatch.new.words a.clause c.requires.sound l.sound
    c.requires.held l.deletes)
