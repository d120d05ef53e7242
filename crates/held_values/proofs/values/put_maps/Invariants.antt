use Rattle.std.proofs.Common.{◌≡◌, drop}
use Rattle.std.specs.Prelude.{fold}
use Rattle.std.specs.List.{flat_map}
use Rattle.held_values.specs.Values.{said_in_map}
use Rattle.slot_places.specs.Values.{put_once}
use Rattle.held_values.proofs.values.put_maps.Given as goal

abbrev pub invariant-loop-map : goal.invariant-loop-map
invariant-loop-map l =
    fold put_once l.held (flat_map (said_in_map l.which) (drop l.map-index l.file.policies.maps))
    ≡ fold put_once l.fn.held (flat_map (said_in_map l.which) l.file.policies.maps)
