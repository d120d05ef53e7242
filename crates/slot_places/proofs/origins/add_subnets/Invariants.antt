use Rattle.std.proofs.Common.{◌≡◌, ◌++◌, drop}
use Rattle.std.specs.List.{flat_map}
use Rattle.slot_places.specs.Origins.{taken_of_subnet}
use Rattle.slot_places.proofs.origins.add_subnets.Given as goal

abbrev pub invariant-loop-x : goal.invariant-loop-x
invariant-loop-x l =
    l.made ++ flat_map (taken_of_subnet l.files l.destinations l.len) (drop l.x-index l.addresses)
    ≡ l.fn.made ++ flat_map (taken_of_subnet l.files l.destinations l.len) l.addresses
