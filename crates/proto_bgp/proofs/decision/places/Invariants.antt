use Rattle.std.proofs.Common.{◌≡◌, map, take}
use Rattle.proto_bgp.specs.Places.{ArePlaces, candidates_at}
use Rattle.proto_bgp.specs.Steps.{seen}
use Rattle.proto_bgp.proofs.decision.places.Given as goal

abbrev pub invariant-loop-at : goal.invariant-loop-at
invariant-loop-at l = record {
  every : candidates_at l.candidates l.all.items ≡ map seen (take l.at l.candidates);
  are : ArePlaces l.at l.all.items;
}
