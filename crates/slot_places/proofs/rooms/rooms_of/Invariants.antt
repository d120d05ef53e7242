use Rattle.std.proofs.Common.{◌≡◌}
use Rattle.slot_places.specs.Rooms.{rooms_below}
use Rattle.slot_places.proofs.rooms.rooms_of.Given as goal

abbrev pub invariant-loop-len : goal.invariant-loop-len
invariant-loop-len l = l.made ≡ rooms_below l.net.files l.destinations l.len
