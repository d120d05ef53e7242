-- Trails: which literals were made true, in their order, at which levels and by which clauses.
use Rattle.std.specs.Prelude.{ℕ, ◌≡◌, ◌<◌, ◌≤◌, Bool, true, false, List, length, take, Option, Some, None}
use Rattle.std.specs.Prelude.{slice_get}
use Rattle.resolution_check.specs.declared.log.Lit.{Lit}
use Rattle.resolution_check.specs.Clauses.{has, is_below}
use Rattle.resolution_check.specs.Trails.{value_of, AllFail, OthersFail}
use Rattle.clause_arena.specs.declared.names.ClauseRef.{ClauseRef}
use Rattle.clause_arena.specs.Links.{word}
use Rattle.clause_arena.specs.Store.{Store}
use Rattle.clause_arena.specs.Held.{IsHeld, lits_of}
use Rattle.conflict_analysis.specs.declared.trail.Trail.{Trail}

-- the clause holds the literal, and all its other literals were false before
pub record IsForcedBy (a : Store) (before : List Lit) (l : Lit) (c : ClauseRef) : Type 0 where
  pub held : IsHeld a c
  pub inside : has (lits_of a c.0) l ≡ true
  pub others : OthersFail before (lits_of a c.0) l

-- the step at this place is the first of a level above 0
pub record OpensLevel (levels : List ℕ) (at : ℕ) : Type 0 where
  pub above : 0 < word levels at
  pub first : (j : ℕ) → j < at → word levels j < word levels at

-- the levels never fall
abbrev pub NeverFalls : List ℕ → Type 0
NeverFalls levels = (j k : ℕ) → j ≤ k → k < length levels → word levels j ≤ word levels k

-- no step from one place up to another is marked that is of this level or a higher one
pub record NoneMarked (lits : List Lit) (levels : List ℕ) (marks : ℕ → Bool) (top low high : ℕ) : Type 0 where
  pub none : (j : ℕ) (l : Lit) → low ≤ j → j < high → slice_get lits j ≡ Some l → top ≤ word levels j
      → marks l.var ≡ false

-- No variable had a value before its step. Levels never fall. A step has no reason exactly where it opens a level; each
-- other one is forced by its reason.
pub record IsTrail (a : Store) (vars : ℕ) (lits : List Lit) (levels : List ℕ) (reasons : List (Option ClauseRef))
    : Type 0 where
  pub level_count : length levels ≡ length lits
  pub reason_count : length reasons ≡ length lits
  pub below : is_below vars lits ≡ true
  pub fresh : (at : ℕ) (l : Lit) → slice_get lits at ≡ Some l → value_of (take at lits) l.var ≡ None
  pub rising : NeverFalls levels
  pub forced : (at : ℕ) (l : Lit) (c : ClauseRef) → slice_get lits at ≡ Some l → slice_get reasons at ≡ Some (Some c)
      → IsForcedBy a (take at lits) l c
  pub opens : (at : ℕ) → slice_get reasons at ≡ Some None → OpensLevel levels at
  pub chosen : (at : ℕ) → at < length lits → OpensLevel levels at → slice_get reasons at ≡ Some None

-- the literals that stood before a place, and the clause is false under all
abbrev pub IsConflict : Store → List Lit → ClauseRef → Type 0
IsConflict a lits c = IsHeld a c × AllFail lits (lits_of a c.0)

-- what an analysis starts from: a trail over so many variables, and a clause that is false under all its literals
abbrev pub IsStart : Store → ℕ → Trail → ClauseRef → Type 0
IsStart a vars t c = IsTrail a vars t.lits.items t.levels.items t.reasons.items × IsConflict a t.lits.items c
