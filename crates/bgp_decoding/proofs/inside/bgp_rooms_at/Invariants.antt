use Rattle.std.proofs.Common.{◌≡◌, ◌++◌, drop}
use Rattle.bgp_variables.specs.Rooms.{bgp_rooms}
use Rattle.bgp_decoding.proofs.inside.bgp_rooms_at.Given as goal

-- the rooms that are there already, and those from here on
abbrev pub invariant-loop-p : goal.invariant-loop-p
invariant-loop-p l =
    l.made.items ++ bgp_rooms l.net.tracked l.net.files (drop l.p-index l.places)
    ≡ bgp_rooms l.net.tracked l.net.files l.places
