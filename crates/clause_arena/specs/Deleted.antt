-- What the deletion of a clause does.
use Rattle.std.specs.Prelude.{ℕ, ◌≡◌, ◌≢◌, ◌⊎◌, ◌+◌, ◌*◌, ◌<◌, ◌≤◌, ◌==◌, ◌||◌, Bool, not, List, filter}
use Rattle.clause_arena.specs.Links.{word, Threads, places}
use Rattle.mw_text.specs.Members.{In}
use Rattle.clause_arena.specs.Store.{Store}
use Rattle.clause_arena.specs.Changes.{IsSame}

-- whether the place is that of a watch of the clause at a reference
abbrev pub is_watch_of : ℕ → ℕ → Bool
is_watch_of r p = (p == r + 2) || (p == r + 3)

-- the places that are not those of a watch of the clause
abbrev pub unwatched : ℕ → List ℕ → List ℕ
unwatched r ps = filter (λ p. not (is_watch_of r p)) ps

-- the references but one
abbrev pub others : ℕ → List ℕ → List ℕ
others r refs = filter (λ s. not (s == r)) refs

-- the clause at a reference was taken out, and its watches out of their lists
pub record Deletes (old new : Store) (r : ℕ) : Type 0 where
  pub vars : new.vars ≡ old.vars
  pub refs : new.refs ≡ others r old.refs
  pub kept : (s : ℕ) → In s new.refs → IsSame (word old.words) (word new.words) s
  pub watched : (n : ℕ) → n < 2 * old.vars → places new.words n ≡ unwatched r (places old.words n)

-- the places p and q were taken from behind the links b and c
pub record IsUnlinked (f g : ℕ → ℕ) (b p c q : ℕ) : Type 0 where
  pub one : g b ≡ f p
  pub other : g c ≡ f q
  pub rest : (j : ℕ) → j ≢ b → j ≢ c → g j ≡ f j

-- the lists lead past the watches of the clause, and no word of a clause but links has changed
pub record IsFreed (vars : ℕ) (f g : ℕ → ℕ) (refs : List ℕ) (lists : ℕ → List ℕ) (r : ℕ) : Type 0 where
  pub content : (s k : ℕ) → In s refs → k < 4 + f s → (k < 2) ⊎ (4 ≤ k) → g (s + k) ≡ f (s + k)
  pub threads : (n : ℕ) → n < 2 * vars → Threads g n (unwatched r (lists n))
