use Rattle.std.proofs.Common.{◌≡◌, ◌++◌, drop}
use Rattle.std.specs.List.{flat_map}
use Rattle.slot_places.specs.Origins.{taken_of_static}
use Rattle.slot_places.proofs.origins.add_statics.Given as goal

abbrev pub invariant-loop-route : goal.invariant-loop-route
invariant-loop-route l =
    l.made ++ flat_map (taken_of_static l.destinations l.len l.file) (drop l.route-index l.file.statics)
    ≡ l.fn.made ++ flat_map (taken_of_static l.destinations l.len l.file) l.file.statics
