use Rattle.std.proofs.Common.{◌≡◌, drop}
use Rattle.std.specs.Prelude.{fold}
use Rattle.std.specs.List.{flat_map}
use Rattle.held_values.specs.Values.{said_in_entry}
use Rattle.slot_places.specs.Values.{put_once}
use Rattle.held_values.proofs.values.put_map.Given as goal

abbrev pub invariant-loop-entry : goal.invariant-loop-entry
invariant-loop-entry l =
    fold put_once l.held (flat_map (said_in_entry l.which) (drop l.entry-index l.map.entries))
    ≡ fold put_once l.fn.held (flat_map (said_in_entry l.which) l.map.entries)
