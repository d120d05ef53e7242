use Rattle.std.proofs.Common.{◌≡◌, ℕ, Some, length}
use Rattle.std.specs.Prelude.{slice_get}
use Rattle.walk_finder.specs.declared.rows.Row.{Row}
use Rattle.walk_finder.specs.Sought.{IsRow}
use Rattle.walk_finder.proofs.sought.rows_of.Given as goal

-- the rows of the routers so far
abbrev pub invariant-loop-at : goal.invariant-loop-at
invariant-loop-at l =
    (length l.rows-inside.items.items ≡ l.at)
    × ((router : ℕ) (row : Row) → slice_get l.rows-inside.items.items router ≡ Some row →
    IsRow l.net.files l.world l.kind router row)
