-- Levels of variables, and what stands on a trail up to a level.
use Rattle.std.specs.Prelude.{ℕ, suc, ◌≡◌, ◌<◌, ◌≤◌, ◌==◌, ◌||◌, Bool, true, false, not, nat_le, if◌then◌else◌}
use Rattle.std.specs.Prelude.{List, [], ◌∷◌, ⊤, length, take, slice_get, Option, Some, None}
use Rattle.std.specs.List.{list_all}
use Rattle.resolution_check.specs.declared.log.Lit.{Lit}
use Rattle.resolution_check.specs.declared.log.Clause.{Clause}
use Rattle.resolution_check.specs.Clauses.{has, is_inside}
use Rattle.resolution_check.specs.Entries.{is_empty}
use Rattle.resolution_check.specs.Trails.{IsSettled}
use Rattle.clause_arena.specs.Links.{word}
use Rattle.clause_arena.specs.Store.{Store}
use Rattle.clause_arena.specs.declared.names.ClauseRef.{ClauseRef}
use Rattle.clause_arena.specs.Held.{held_in, lits_of}
use Rattle.conflict_analysis.specs.Steps.{OpensLevel, NoneMarked}

-- the level of a variable's step, 0 where it has none
abbrev pub level_of : List Lit → List ℕ → ℕ → ℕ
level_of [] levels v = 0
level_of (l ∷ steps) [] v = 0
level_of (l ∷ steps) (n ∷ levels) v = if l.var == v then n else level_of steps levels v

-- how many steps stand before the first one of a higher level
abbrev pub count_to : List ℕ → ℕ → ℕ
count_to [] level = 0
count_to (n ∷ levels) level = if nat_le n level then suc (count_to levels level) else 0

-- the steps of levels up to this one
abbrev pub steps_to : List Lit → List ℕ → ℕ → List Lit
steps_to steps levels level = take (count_to levels level) steps

-- each literal is of no higher level than those before it
abbrev pub NeverRises : List Lit → List ℕ → List Lit → Type 0
NeverRises steps levels [] = ⊤
NeverRises steps levels (l ∷ lits) =
    ((k : Lit) → has lits k ≡ true → level_of steps levels k.var ≤ level_of steps levels l.var)
    × NeverRises steps levels lits

-- of the clause's literals this one alone is of the level
pub record IsAlone (steps : List Lit) (levels : List ℕ) (c : List Lit) (level : ℕ) (l : Lit) : Type 0 where
  pub inside : has c l ≡ true
  pub own : level_of steps levels l.var ≡ level
  pub only : (k : Lit) → has c k ≡ true → level_of steps levels k.var ≡ level → k ≡ l

-- no clause is empty
abbrev pub AreFilled : Store → Type 0
AreFilled a = (id : ℕ) (c : Clause) → held_in a id ≡ Some c → is_empty c.lits ≡ false

-- under the steps before each one that opens a level no clause is false or unit
abbrev pub AreFull : Store → List Lit → List ℕ → Type 0
AreFull a steps levels =
    (at id : ℕ) (c : Clause) → at < length levels → OpensLevel levels at → held_in a id ≡ Some c
    → IsSettled (take at steps) c.lits

-- the clause contains no clause that is held
pub record ContainsNone (a : Store) (lits : List Lit) : Type 0 where
  pub outside : (id : ℕ) (c : Clause) → held_in a id ≡ Some c → is_inside c.lits lits ≡ false

-- ---- marked steps

-- a step before a place is marked that is of this level or a higher one
pub record HasMarked (steps : List Lit) (levels : List ℕ) (marks : ℕ → Bool) (top high : ℕ) : Type 0 where
  pub at : ℕ
  pub lit : Lit
  pub before : at < high
  pub there : slice_get steps at ≡ Some lit
  pub reached : top ≤ word levels at
  pub is_marked : marks lit.var ≡ true

-- whether each variable of the clause is this one or marked
abbrev pub others_marked : (ℕ → Bool) → ℕ → List Lit → Bool
others_marked marks var c = list_all (λ l. (l.var == var) || marks l.var) c

-- whether a variable's reason has no variables beside it but marked ones, so that literals of theirs imply its own
abbrev pub is_implied : Store → (ℕ → Bool) → ℕ → Option ClauseRef → Bool
is_implied a marks var None = false
is_implied a marks var (Some c) = others_marked marks var (lits_of a c.0)

-- Whether a marked step is kept: never at level 0; between it and the top level where the other marked ones do not
-- imply it; and at the top level where no step before it is marked.
pub record Stays (a : Store) (steps : List Lit) (levels : List ℕ) (reasons : List (Option ClauseRef))
    (marks : ℕ → Bool) (top at : ℕ) (kept : Bool) : Type 0 where
  pub ground : word levels at ≡ 0 → kept ≡ false
  pub lower : 0 < word levels at → word levels at < top → (l : Lit) (r : Option ClauseRef) → slice_get steps at ≡ Some l
      → slice_get reasons at ≡ Some r → kept ≡ not (is_implied a marks l.var r)
  pub last : kept ≡ true → top ≤ word levels at → NoneMarked steps levels marks top 0 at
  pub another : kept ≡ false → 0 < word levels at → top ≤ word levels at → HasMarked steps levels marks top at

-- the highest level of a marked step, 0 where none is marked
pub record IsTop (steps : List Lit) (levels : List ℕ) (marks : ℕ → Bool) (top : ℕ) : Type 0 where
  pub none_higher : (at : ℕ) (l : Lit) → slice_get steps at ≡ Some l → marks l.var ≡ true → word levels at ≤ top
  pub reached : 0 < top → HasMarked steps levels marks top (length steps)
