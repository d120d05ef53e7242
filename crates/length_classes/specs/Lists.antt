-- The lists of the coarsest plan.
use Rattle.std.specs.Prelude.{ℕ, zero, suc, ◌+◌, ◌==◌, List, if◌then◌else◌, map, min}
use Rattle.std.specs.List.{count_by}
use Rattle.ios_ast.specs.declared.file.File.{File}
use Rattle.plan_places.specs.Plans.{numbers_below}
use Rattle.sliced_routings.specs.Cuts.{is_cut}

-- how many cuts there are up to a length
unfoldable pub cuts_to : List File → ℕ → ℕ
cuts_to files zero = 0
cuts_to files (suc len) = cuts_to files len + (if is_cut files (suc len) then 1 else 0)

-- the class of each of so many lengths
abbrev pub classes_below : List File → ℕ → List ℕ
classes_below files n = map (cuts_to files) (numbers_below n)

-- the slices of a class, where these are the classes of all lengths
abbrev pub slices_in : List ℕ → ℕ → ℕ → ℕ
slices_in classes routers class = min (count_by (λ c. c == class) classes) routers

-- those of so many classes
abbrev pub slices_below : List ℕ → ℕ → ℕ → List ℕ
slices_below classes routers n = map (slices_in classes routers) (numbers_below n)
