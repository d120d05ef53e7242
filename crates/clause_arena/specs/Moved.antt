-- What the move of a watch does.
use Rattle.std.specs.Prelude.{ℕ, ◌≡◌, ◌≢◌, ◌+◌, ◌*◌, ◌<◌, ◌∷◌, Option}
use Rattle.clause_arena.specs.declared.names.Watch.{Watch}
use Rattle.clause_arena.specs.Links.{word, places, cut}
use Rattle.mw_text.specs.Members.{In}
use Rattle.clause_arena.specs.Store.{Store}
use Rattle.clause_arena.specs.Held.{code_at}
use Rattle.clause_arena.specs.Watched.{place, own, link_of}

-- the codes at the watch's side and at this place were exchanged, and the watch is now the first in the list of its
-- new code
pub record Moves (old new : Store) (before : Option Watch) (w : Watch) (to : ℕ) : Type 0 where
  pub vars : new.vars ≡ old.vars
  pub refs : new.refs ≡ old.refs
  pub left : places new.words (own old w) ≡ cut (link_of before (own old w)) (own old w) (places old.words (own old w))
  pub joined : places new.words (code_at old w.clause to) ≡ place w ∷ places old.words (code_at old w.clause to)
  pub others : (n : ℕ) → n < 2 * old.vars → n ≢ own old w → n ≢ code_at old w.clause to → places new.words n
      ≡ places old.words n
  pub one : own new w ≡ code_at old w.clause to
  pub other : code_at new w.clause to ≡ own old w
  pub sizes : (r : ℕ) → In r old.refs → word new.words r ≡ word old.words r
  pub numbers : (r : ℕ) → In r old.refs → word new.words (r + 1) ≡ word old.words (r + 1)
  pub codes : (r k : ℕ) → In r old.refs → k < word old.words r → (r ≡ w.clause.0 → k ≢ w.side)
      → (r ≡ w.clause.0 → k ≢ to)
      → word new.words (r + 4 + k) ≡ word old.words (r + 4 + k)
