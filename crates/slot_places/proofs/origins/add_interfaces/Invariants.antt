use Rattle.std.proofs.Common.{◌≡◌, ◌++◌, drop}
use Rattle.std.specs.List.{flat_map}
use Rattle.slot_places.specs.Origins.{advertised_by}
use Rattle.slot_places.proofs.origins.add_interfaces.Given as goal

abbrev pub invariant-loop-x : goal.invariant-loop-x
invariant-loop-x l =
    l.made ++ flat_map (advertised_by l.destinations l.len) (drop l.x-index l.running)
    ≡ l.fn.made ++ flat_map (advertised_by l.destinations l.len) l.running
