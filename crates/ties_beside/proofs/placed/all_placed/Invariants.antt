use Rattle.std.proofs.Common.{◌≡◌, map, take}
use Rattle.joined_terms.specs.Joining.{place_of}
use Rattle.ties_beside.proofs.placed.all_placed.Given as goal

abbrev pub invariant-loop-id : goal.invariant-loop-id
invariant-loop-id l = l.all ≡ map (place_of l.places) (take l.id-index l.ids)
