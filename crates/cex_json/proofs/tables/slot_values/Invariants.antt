use Rattle.std.proofs.Common.{◌≡◌, ◌++◌, drop, map}
use Rattle.serde_json.specs.View.{view}
use Rattle.cex_json.specs.Parts.{slots_from}
use Rattle.cex_json.proofs.tables.slot_values.Given as goal

-- the values so far and those of the slots that are left are all
abbrev pub invariant-loop-place : goal.invariant-loop-place
invariant-loop-place l =
    map view l.values.items ++ slots_from l.files l.place (drop l.place l.slots) ≡ slots_from l.files 0 l.slots
