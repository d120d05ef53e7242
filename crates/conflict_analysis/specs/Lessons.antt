-- What a false clause teaches: a clause that a chain of held clauses resolves to.
use Rattle.std.specs.Prelude.{ℕ, ◌≡◌, ◌<◌, ◌≤◌, Bool, true, false, ◌&&◌, ◌||◌, List, length, take, None, Ok}
use Rattle.std.specs.Prelude.{Some, is_some, slice_get, slice_index_or, ◌⊎◌, []}
use Rattle.resolution_check.specs.declared.log.Lit.{Lit}
use Rattle.resolution_check.specs.Clauses.{opposite, has, IsSameSet}
use Rattle.resolution_check.specs.Entries.{resolved}
use Rattle.resolution_check.specs.Earned.{has_var, vars_differ}
use Rattle.resolution_check.specs.Trails.{value_of, fails, AllFail, OthersFail, IsUnit}
use Rattle.clause_arena.specs.Store.{Store}
use Rattle.clause_arena.specs.Held.{held_in}
use Rattle.conflict_analysis.specs.Levels.{level_of, steps_to, IsAlone, IsTop, NeverRises}

-- whether the variable is marked
abbrev pub marked : List Bool → ℕ → Bool
marked marks v = slice_index_or marks v false

-- The steps are followed back, the first `left` are still to be followed. The chain resolves to a clause of false
-- literals: those that are kept, whose steps are behind, and those of marked variables, whose steps are to come.
pub record IsFollowed (a : Store) (steps : List Lit) (left : ℕ) (marks : ℕ → Bool) (lits : List Lit) (chain : List ℕ)
    : Type 0 where
  pub clause : List Lit
  pub resolves : resolved (held_in a) chain ≡ Ok clause
  pub parts : (l : Lit) → has clause l ≡ (has lits l || (marks l.var && fails steps l))
  pub kept_false : AllFail steps lits
  pub to_come : (var : ℕ) → marks var ≡ true → is_some (value_of (take left steps) var) ≡ true
  pub behind : (l : Lit) → has lits l ≡ true → value_of (take left steps) l.var ≡ None
  pub once : vars_differ lits ≡ true

-- the chain resolves to exactly the literals of the clause; all are false, and no variable stands twice
pub record IsLesson (a : Store) (steps lits : List Lit) (chain : List ℕ) : Type 0 where
  pub clause : List Lit
  pub resolves : resolved (held_in a) chain ≡ Ok clause
  pub same : IsSameSet clause lits
  pub false_all : AllFail steps lits
  pub once : vars_differ lits ≡ true

-- what contracts see of a work space: how many variables it is for, and the clause and the chain of the last analysis
pub record Lesson : Type 0 where
  pub vars : ℕ
  pub lits : List Lit
  pub chain : List ℕ

-- nothing is marked, and there is room for a literal of each variable and for one number more
pub record IsReady (marks : List Bool) (clause_room chain_room : ℕ) : Type 0 where
  pub unmarked : (v : ℕ) → marked marks v ≡ false
  pub clause : length marks ≤ clause_room
  pub chain : length marks < chain_room

-- the literal's negation is a step of this level
pub record IsLevelOf (steps : List Lit) (levels : List ℕ) (l : Lit) (level : ℕ) : Type 0 where
  pub at : ℕ
  pub there : slice_get steps at ≡ Some (opposite l)
  pub own : slice_get levels at ≡ Some level

-- the level of the second literal, 0 where there is none
pub record IsSecond (steps : List Lit) (levels : List ℕ) (lits : List Lit) (level : ℕ) : Type 0 where
  pub none : length lits < 2 → level ≡ 0
  pub second : (l : Lit) → slice_get lits 1 ≡ Some l → IsLevelOf steps levels l level

-- The level to go back to is that of the second literal, 0 where there is none. Under the steps up to it the first
-- literal has no value and all others are false; at each lower level more than one literal is not false.
pub record IsBack (steps : List Lit) (levels : List ℕ) (lits : List Lit) (level : ℕ) : Type 0 where
  pub none : length lits < 2 → level ≡ 0
  pub second : (l : Lit) → slice_get lits 1 ≡ Some l → IsLevelOf steps levels l level
  pub unit : (l : Lit) → slice_get lits 0 ≡ Some l → IsUnit (steps_to steps levels level) lits l
  pub least : (lower : ℕ) (l : Lit) → lower < level → OthersFail (steps_to steps levels lower) lits l → ⊥

-- The literal is the first unique implication point: of the top level, with only literals of lower levels, above 0,
-- beside it; and wherever the chain has come to a clause with one literal of the top level alone, it was this one.
pub record IsFirstPoint (a : Store) (steps : List Lit) (levels : List ℕ) (lits : List Lit) (chain : List ℕ) (top : ℕ)
    (point : Lit) : Type 0 where
  pub there : slice_get lits 0 ≡ Some point
  pub own : level_of steps levels point.var ≡ top
  pub beside : (k : Lit) → has lits k ≡ true
      → (k ≡ point) ⊎ ((0 < level_of steps levels k.var) × (level_of steps levels k.var < top))
  pub first : (n : ℕ) (r : List Lit) (k : Lit) → resolved (held_in a) (take n chain) ≡ Ok r
      → IsAlone steps levels r top k → k ≡ point

-- The top level is the highest of a literal of the false clause. Where it is 0 the learnt clause is empty, and else its
-- first literal is the first unique implication point.
pub record IsPointed (a : Store) (steps : List Lit) (levels : List ℕ) (false_clause lits : List Lit) (chain : List ℕ)
    : Type 0 where
  pub top : ℕ
  pub highest : (l : Lit) → has false_clause l ≡ true → level_of steps levels l.var ≤ top
  pub reached : 0 < top → (l : Lit) × (has false_clause l ≡ true) × (level_of steps levels l.var ≡ top)
  pub ground : top ≡ 0 → lits ≡ []
  pub point : 0 < top → (l : Lit) × IsFirstPoint a steps levels lits chain top l

-- ---- on the way, while steps are followed back

-- exactly the variables of the false clause are marked, and this is the highest of their levels
pub record IsBegun (steps : List Lit) (levels : List ℕ) (false_clause : List Lit) (marks : ℕ → Bool) (top : ℕ)
    : Type 0 where
  pub same : (v : ℕ) → marks v ≡ has_var false_clause v
  pub highest : IsTop steps levels marks top

-- nothing is kept, a step of the top level is marked, and the chain has come to no clause with one literal of it alone
pub record IsBeforePoint (a : Store) (steps : List Lit) (levels : List ℕ) (top : ℕ) (marks : ℕ → Bool)
    (lits : List Lit) (chain : List ℕ) : Type 0 where
  pub none_kept : lits ≡ []
  pub var : ℕ
  pub is_marked : marks var ≡ true
  pub own : level_of steps levels var ≡ top
  pub none_alone : (n : ℕ) (r : List Lit) (k : Lit) → n < length chain → resolved (held_in a) (take n chain) ≡ Ok r
      → IsAlone steps levels r top k → ⊥

-- the point is kept, and what is marked is of lower levels
pub record IsBehindPoint (a : Store) (steps : List Lit) (levels : List ℕ) (top : ℕ) (marks : ℕ → Bool)
    (lits : List Lit) (chain : List ℕ) : Type 0 where
  pub lit : Lit
  pub point : IsFirstPoint a steps levels lits chain top lit
  pub lower : (v : ℕ) → marks v ≡ true → level_of steps levels v < top

-- the steps are followed back, and what was kept goes from higher levels to lower ones
pub record IsOnWay (a : Store) (steps : List Lit) (levels : List ℕ) (top left : ℕ) (marks : ℕ → Bool)
    (lits : List Lit) (chain : List ℕ) : Type 0 where
  pub followed : IsFollowed a steps left marks lits chain
  pub none_higher : (v : ℕ) → marks v ≡ true → level_of steps levels v ≤ top
  pub order : NeverRises steps levels lits
  pub phase : ((top ≡ 0) × (lits ≡ []))
      ⊎ ((0 < top) × (IsBeforePoint a steps levels top marks lits chain
      ⊎ IsBehindPoint a steps levels top marks lits chain))
