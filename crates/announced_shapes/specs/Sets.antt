-- Shapes whose marks are kept as sets of positions: bit i of a set is the mark of the tracked value at i.
use Rattle.std.specs.Prelude.{ℕ, zero, suc, ◌/◌, ◌%◌, ◌==◌, Bool, List, [], ◌∷◌, length}
use Rattle.route_record.specs.declared.tracked.Shape.{Shape}
use Rattle.route_shapes.specs.Shapes.{PathShape}

-- the marks of so many positions
abbrev pub marks_of : ℕ → ℕ → List Bool
marks_of zero set = []
marks_of (suc count) set = (set % 2 == 1) ∷ marks_of count (set / 2)

-- the shape of a path
abbrev pub path_of : List ℕ → Shape → PathShape
path_of tracked s = record {
  len = s.len;
  first = s.first;
  last = s.last;
  numbers = marks_of (length tracked) s.numbers;
}
