use Rattle.std.proofs.Common.{◌≡◌, ◌+◌, drop}
use Rattle.world_variables.specs.Unknowns.{rooms_at, unknowns_width}
use Rattle.bgp_decoding.proofs.inside.unknowns_end.Given as goal

-- where the variables of the places from here on begin
abbrev pub invariant-loop-p : goal.invariant-loop-p
invariant-loop-p l =
    l.at + unknowns_width (rooms_at l.files l.destinations (drop l.p-index l.places))
    ≡ l.from + unknowns_width (rooms_at l.files l.destinations l.places)
