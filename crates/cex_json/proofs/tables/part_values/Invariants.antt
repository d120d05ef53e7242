use Rattle.std.proofs.Common.{◌≡◌, ◌++◌, drop, map}
use Rattle.serde_json.specs.View.{view}
use Rattle.cex_json.specs.Text.{part_data}
use Rattle.cex_json.proofs.tables.part_values.Given as goal

-- the values so far and those of the slots that are left are all
abbrev pub invariant-loop-slot : goal.invariant-loop-slot
invariant-loop-slot l =
    map view l.values.items ++ map part_data (drop l.slot-index l.slots) ≡ map part_data l.slots
