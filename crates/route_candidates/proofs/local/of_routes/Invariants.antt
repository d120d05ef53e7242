use Rattle.std.proofs.Common.{◌≡◌, ◌++◌, false, map}
use Rattle.std.specs.Vec.Iter.{into_iter_items}
use Rattle.proto_bgp.specs.Steps.{seen}
use Rattle.route_candidates.proofs.local.of_routes.Given as goal

-- the candidates so far, with those of the routes that are left, are all
abbrev pub invariant-loop-rec : goal.invariant-loop-rec
invariant-loop-rec l =
    map seen l.made-inside.items.items
    ++ map (λ rec. record { rec = rec; external = false; cost = 0; peer_id = l.own }) (into_iter_items l.rec-iterator)
    ≡ map (λ rec. record { rec = rec; external = false; cost = 0; peer_id = l.own }) l.fn.routes
