use Rattle.std.proofs.Common.{◌≡◌, drop, map}
use Rattle.std.specs.Prelude.{fold}
use Rattle.route_record.specs.declared.RibSource.TheVariants.{Static}
use Rattle.net_parts.specs.Routing.{candidates, closer, least_distance, static_routes}
use Rattle.proto_rib.proofs.tables.entry_of.Given as goal

-- the best candidate so far, and the static routes that are left
abbrev pub invariant-loop-route : goal.invariant-loop-route
invariant-loop-route l =
    fold closer l.best (map (λ route. record { source = Static; distance = route.distance })
    (static_routes l.up (drop l.route-index l.statics) l.p))
    ≡ least_distance (candidates l.up l.statics l.p)
