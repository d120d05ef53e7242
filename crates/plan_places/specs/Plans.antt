-- At which prefix lengths the slices of a plan stand: slice i of a class at the class's length i, ascending.
use Rattle.std.specs.Prelude.{ℕ, zero, suc, ◌==◌, Bool, false, List, [], ◌∷◌, ◌++◌, nat_lt, replicate, slice_get}
use Rattle.std.specs.Prelude.{take, unwrap_or, if◌then◌else◌}
use Rattle.std.specs.List.{count_by}
use Rattle.std.specs.Option.{option_map_or}
use Rattle.route_record.specs.declared.Plan.{Plan}
use Rattle.route_record.specs.declared.TheConstants.{LENGTHS}

-- how many shorter lengths are of that class
abbrev pub earlier_in_class : Plan → ℕ → ℕ → ℕ
earlier_in_class plan len class = count_by (λ c. c == class) (take len plan.class)

-- a slice stands at the length: fewer shorter lengths are of its class than the class has slices
abbrev pub has_slice : Plan → ℕ → Bool
has_slice plan len =
    option_map_or (λ class. nat_lt (earlier_in_class plan len class) (unwrap_or (slice_get plan.slices class) 0))
    (slice_get plan.class len) false

-- those of the lengths below one
unfoldable pub lens_below : Plan → ℕ → List ℕ
lens_below plan zero = []
lens_below plan (suc len) = lens_below plan len ++ (if has_slice plan len then len ∷ [] else [])

-- all of them, ascending
abbrev pub lens_of : Plan → List ℕ
lens_of plan = lens_below plan LENGTHS

-- ---- the plan in which each length is a class of its own

unfoldable pub numbers_below : ℕ → List ℕ
numbers_below zero = []
numbers_below (suc n) = numbers_below n ++ n ∷ []

unfoldable pub single_plan : Plan
single_plan = record { class = numbers_below LENGTHS; slices = replicate LENGTHS 1 }
