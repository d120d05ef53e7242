-- Plans that fit the files, and the coarsest of them.
use Rattle.std.specs.Prelude.{◌≡◌, ◌⊎◌, ℕ, suc, ◌-◌, ◌<◌, ◌==◌, List, length, min, slice_get, Some, true, unwrap_or}
use Rattle.std.specs.List.{count_by}
use Rattle.ios_ast.specs.declared.file.File.{File}
use Rattle.route_record.specs.declared.Plan.{Plan}
use Rattle.route_record.specs.declared.TheConstants.{LENGTHS}
use Rattle.sliced_routings.specs.Cuts.{is_cut}

-- the class of a length
abbrev pub class_at : Plan → ℕ → ℕ
class_at plan len = unwrap_or (slice_get plan.class len) 0

-- how many lengths a class has
abbrev pub size_of : Plan → ℕ → ℕ
size_of plan class = count_by (λ c. c == class) plan.class

-- the next class begins after that length
abbrev pub EndsClass : Plan → ℕ → Type 0
EndsClass plan len = class_at plan (suc len) ≡ suc (class_at plan len)

-- the classes are intervals of the 33 lengths, numbered upwards from 0; each cut begins one; and each has as many
-- slices as it has lengths, but no more than there are routers
pub record IsFittingPlan (files : List File) (plan : Plan) : Type 0 where
  pub lengths : length plan.class ≡ LENGTHS
  pub first : class_at plan 0 ≡ 0
  pub upwards : (len : ℕ) → suc len < LENGTHS → (class_at plan (suc len) ≡ class_at plan len) ⊎ EndsClass plan len
  pub cuts : (len : ℕ) → suc len < LENGTHS → is_cut files (suc len) ≡ true → EndsClass plan len
  pub classes : length plan.slices ≡ suc (class_at plan (LENGTHS - 1))
  pub slices : (class many : ℕ) → slice_get plan.slices class ≡ Some many →
      many ≡ min (size_of plan class) (length files)

-- only 0 and the cuts begin a class
pub record IsCoarsestPlan (files : List File) (plan : Plan) : Type 0 where
  pub fits : IsFittingPlan files plan
  pub only : (len : ℕ) → suc len < LENGTHS → EndsClass plan len → is_cut files (suc len) ≡ true
