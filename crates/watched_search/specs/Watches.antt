-- Two watched literals: what propagation owes of each clause.
use Rattle.std.specs.Prelude.{ℕ, ◌≡◌, ◌⊎◌, ◌+◌, ◌-◌, ◌<◌, ◌≤◌, true, false, List, ◌++◌, length, take, Option}
use Rattle.std.specs.Prelude.{Some, None, slice_get}
use Rattle.resolution_check.specs.declared.log.Lit.{Lit}
use Rattle.resolution_check.specs.Clauses.{has}
use Rattle.resolution_check.specs.Trails.{holds, fails, AllFail, IsUnit}
use Rattle.clause_arena.specs.declared.names.Watch.{Watch}
use Rattle.clause_arena.specs.Links.{word, places}
use Rattle.mw_text.specs.Members.{In}
use Rattle.clause_arena.specs.Watched.{rest}
use Rattle.clause_arena.specs.Store.{Store}
use Rattle.clause_arena.specs.Held.{lit_of, lits_of}
use Rattle.conflict_analysis.specs.Steps.{OpensLevel}
use Rattle.conflict_analysis.specs.Levels.{level_of, steps_to}
use Rattle.watched_search.specs.Trails.{last_level}
use Rattle.watched_search.specs.declared.visiting.Visited.{Visited}
use Rattle.watched_search.specs.declared.visiting.Visited.TheVariants.{Stays, Moves, Conflict}

-- the literal of the clause at a reference, at a place
abbrev pub literal : Store → ℕ → ℕ → Lit
literal a r k = lit_of (word a.words (r + 4 + k))

-- of each clause of two or more literals: where a watched literal is false by these steps, the other one is true by
-- those
abbrev pub AreWatched : Store → (looked_at steps : List Lit) → Type 0
AreWatched a looked_at steps =
    (r side : ℕ) → In r a.refs → 2 ≤ word a.words r → side < 2 → fails looked_at (literal a r side) ≡ true
    → holds steps (literal a r (1 - side)) ≡ true

-- No clause is empty, and the literal of each clause of one is true at level 0. Before each step that opens a level,
-- and now for the steps before the head, a watched literal is false only where the other one is true. A level is no
-- higher than there are steps up to its first one.
pub record IsKept (a : Store) (steps : List Lit) (levels : List ℕ) (head : ℕ) : Type 0 where
  pub filled : (r : ℕ) → In r a.refs → 1 ≤ word a.words r
  pub ones : (r : ℕ) → In r a.refs → word a.words r ≡ 1 → holds (steps_to steps levels 0) (literal a r 0) ≡ true
  pub before : (at : ℕ) → at < length levels → OpensLevel levels at → AreWatched a (take at steps) (take at steps)
  pub now : AreWatched a (take head steps) steps
  pub low : (at : ℕ) → at < length levels → word levels at ≤ at + 1

-- the later steps begin with the earlier ones
pub record Extends (old new : List Lit) : Type 0 where
  pub more : List Lit
  pub is : new ≡ old ++ more

-- ---- a watch whose literal is false

-- a literal of the clause from place 2 on that is not false, or none is there
abbrev pub IsReplacement : Store → List Lit → ℕ → Option ℕ → Type 0
IsReplacement a steps r None =
    (k : ℕ) → 2 ≤ k → k < word a.words r → fails steps (literal a r k) ≡ true
IsReplacement a steps r (Some at) = (2 ≤ at) × (at < word a.words r) × (fails steps (literal a r at) ≡ false)

-- what was found: the other watch is true, the literal at a place is not false, or all literals are false
abbrev pub IsFound : Store → List Lit → Watch → Visited → Type 0
IsFound a steps w Stays = holds steps (literal a w.clause.0 (1 - w.side)) ≡ true
IsFound a steps w (Moves to) = IsReplacement a steps w.clause.0 (Some to)
IsFound a steps w Conflict = AllFail steps (lits_of a w.clause.0)

-- ---- walks along the list of a literal that became false

-- the other watch of the watch at a place is true
abbrev pub OtherTrue : Store → List Lit → ℕ → Type 0
OtherTrue a steps p =
    (r side : ℕ) → In r a.refs → 2 ≤ word a.words r → side < 2 → p ≡ r + 2 + side
    → holds steps (literal a r (1 - side)) ≡ true

-- each watch in the list of a code is still to come, or its other watch is true
pub record IsWalked (a : Store) (steps : List Lit) (before : Option Watch) (n : ℕ) : Type 0 where
  pub walked : (p : ℕ) → In p (places a.words n) → In p (rest a before n) ⊎ OtherTrue a steps p

-- each watch in the list of a code has its other watch true
pub record AllTrue (a : Store) (steps : List Lit) (n : ℕ) : Type 0 where
  pub other : (p : ℕ) → In p (places a.words n) → OtherTrue a steps p

-- ---- a clause that was learnt, once the steps above its second literal were taken back

-- The first literal is the only one that is not false, and has no value; the second is of the last level, and where
-- there is none that level is 0.
pub record IsAsserting (steps : List Lit) (levels : List ℕ) (clause : List Lit) : Type 0 where
  pub first : Lit
  pub there : slice_get clause 0 ≡ Some first
  pub unit : IsUnit steps clause first
  pub second : (l : Lit) → slice_get clause 1 ≡ Some l → level_of steps levels l.var ≡ last_level levels
  pub alone : length clause ≡ 1 → last_level levels ≡ 0

-- ---- the clauses that are held, while their watches move

-- the same clauses are held under the same references and numbers, each with the same literals
pub record IsSameView (old new : Store) : Type 0 where
  pub vars : new.vars ≡ old.vars
  pub refs : new.refs ≡ old.refs
  pub numbers : (r : ℕ) → In r old.refs → word new.words (r + 1) ≡ word old.words (r + 1)
  pub literals : (r : ℕ) (l : Lit) → In r old.refs → has (lits_of new r) l ≡ has (lits_of old r) l
