use Rattle.std.proofs.Common.{◌≡◌, ◌++◌, drop}
use Rattle.slot_places.specs.Rooms.{used_among}
use Rattle.slot_places.proofs.usable.used_among.Given as goal

abbrev pub invariant-loop-p : goal.invariant-loop-p
invariant-loop-p l = l.used ++ used_among l.files l.destinations (drop l.p-index l.places)
    ≡ used_among l.files l.destinations l.places
