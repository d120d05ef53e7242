-- Input clauses that are held before the first decision, and the numbers of the clauses held.
use Rattle.std.specs.Prelude.{ℕ, ◌≡◌, ◌+◌, ◌<◌, ◌≤◌, true, List, [], ◌∷◌}
use Rattle.resolution_check.specs.declared.log.Lit.{Lit}
use Rattle.resolution_check.specs.declared.log.Clause.{Clause}
use Rattle.resolution_check.specs.Trails.{holds}
use Rattle.clause_arena.specs.declared.names.ClauseRef.{ClauseRef}
use Rattle.clause_arena.specs.Links.{word}
use Rattle.mw_text.specs.Members.{In}
use Rattle.clause_arena.specs.Store.{Store}
use Rattle.clause_arena.specs.Held.{IsHeld, number_of}
use Rattle.watched_search.specs.Trails.{last_level}
use Rattle.watched_search.specs.Watches.{literal}

-- all steps are of level 0, and no clause is empty
pub record IsGround (a : Store) (levels : List ℕ) : Type 0 where
  pub low : last_level levels ≡ 0
  pub filled : (r : ℕ) → In r a.refs → 1 ≤ word a.words r

-- the literal of each clause of one is true
abbrev pub OnesHold : Store → List Lit → Type 0
OnesHold a lits = (r : ℕ) → In r a.refs → word a.words r ≡ 1 → holds lits (literal a r 0) ≡ true

-- each number held is below this one
abbrev pub AreBelow : Store → ℕ → Type 0
AreBelow a next = (c : ClauseRef) → IsHeld a c → number_of a c < next

-- the clauses, numbered upwards from a number
abbrev pub numbered_from : ℕ → List Clause → List (ℕ × List Lit)
numbered_from id [] = []
numbered_from id (c ∷ cs) = (id, c.lits) ∷ numbered_from (id + 1) cs
