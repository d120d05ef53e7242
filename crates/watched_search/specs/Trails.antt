-- What a search keeps of its trail, and the values that it gives.
use Rattle.std.specs.Prelude.{ℕ, ◌≡◌, ◌⊎◌, ◌-◌, ◌<◌, ◌≤◌, Bool, true, false, not, List, length, take, Option}
use Rattle.std.specs.Prelude.{Some, None}
use Rattle.std.specs.Prelude.{slice_get}
use Rattle.resolution_check.specs.declared.log.Lit.{Lit}
use Rattle.resolution_check.specs.Clauses.{is_below}
use Rattle.resolution_check.specs.Trails.{value_of, IsTotal}
use Rattle.clause_arena.specs.declared.names.ClauseRef.{ClauseRef}
use Rattle.clause_arena.specs.Links.{word}
use Rattle.clause_arena.specs.Store.{Store}
use Rattle.conflict_analysis.specs.Steps.{IsForcedBy}
use Rattle.deciders.specs.declared.decider.Choice.{Choice}
use Rattle.deciders.specs.declared.decider.Value.{Value}
use Rattle.deciders.specs.declared.decider.Value.TheVariants.{Free, False, True}

-- the value that deciders see
abbrev pub shown : Option Bool → Value
shown None = Free
shown (Some true) = True
shown (Some false) = False

-- what contracts see of a trail with values: how many variables there are, the literals made true in their order,
-- their levels and their reasons
pub record Assigned : Type 0 where
  pub vars : ℕ
  pub lits : List Lit
  pub levels : List ℕ
  pub reasons : List (Option ClauseRef)

-- each variable has the value that the literals give it, and none had one before its literal
pub record IsSound (lits : List Lit) (levels : List ℕ) (reasons : List (Option ClauseRef)) (values : List Value)
    : Type 0 where
  pub same : (v : ℕ) → v < length values → slice_get values v ≡ Some (shown (value_of lits v))
  pub below : is_below (length values) lits ≡ true
  pub fresh : (at : ℕ) (l : Lit) → slice_get lits at ≡ Some l → value_of (take at lits) l.var ≡ None
  pub level_count : length levels ≡ length lits
  pub reason_count : length reasons ≡ length lits

-- there is room for a literal of each variable
pub record HasRoom (vars lit_room level_room reason_room : ℕ) : Type 0 where
  pub lits : vars ≤ lit_room
  pub levels : vars ≤ level_room
  pub reasons : vars ≤ reason_room

-- the level of the last literal, 0 where there is none
abbrev pub last_level : List ℕ → ℕ
last_level levels = word levels (length levels - 1)

-- a literal that may be made true next: it is chosen and opens a level
pub record IsChosen (levels : List ℕ) (level : ℕ) (reason : Option ClauseRef) : Type 0 where
  pub none : reason ≡ None
  pub higher : last_level levels < level

-- or a clause forces it at the last level
pub record IsForced (a : Store) (lits : List Lit) (levels : List ℕ) (l : Lit) (level : ℕ) (reason : Option ClauseRef)
    : Type 0 where
  pub clause : ClauseRef
  pub is : reason ≡ Some clause
  pub forced : IsForcedBy a lits l clause
  pub same_level : level ≡ last_level levels

abbrev pub MayFollow : Store → List Lit → List ℕ → Lit → ℕ → Option ClauseRef → Type 0
MayFollow a lits levels l level reason = IsChosen levels level reason ⊎ IsForced a lits levels l level reason

-- the literal of a choice
abbrev pub literal_chosen : Choice → Lit
literal_chosen choice = record { var = choice.var; negated = not choice.positive }

-- the literal is a variable's negation, and all variables below it have values
pub record IsLeast (steps : List Lit) (l : Lit) : Type 0 where
  pub negated : l.negated ≡ true
  pub least : IsTotal l.var steps

-- the literal's variable is one, and has no value
pub record IsFree (vars : ℕ) (steps : List Lit) (l : Lit) : Type 0 where
  pub below : l.var < vars
  pub free : value_of steps l.var ≡ None
