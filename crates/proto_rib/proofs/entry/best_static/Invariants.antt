use Rattle.std.proofs.Common.{◌≡◌, drop, map, fold}
use Rattle.net_parts.specs.Routing as routing
use Rattle.route_record.specs.declared.RibSource.TheVariants.{Static}
use Rattle.proto_rib.proofs.entry.best_static.Given as goal

-- the best so far and the routes that are left decide
abbrev pub invariant-loop-route : goal.invariant-loop-route
invariant-loop-route l =
    fold routing.closer l.best (map (λ route. record { source = Static; distance = route.distance })
    (routing.static_routes (routing.up_interfaces l.net.files l.failures l.router) (drop l.route-index l.statics) l.p))
    ≡ fold routing.closer l.fn.first (map (λ route. record { source = Static; distance = route.distance })
    (routing.static_routes (routing.up_interfaces l.net.files l.failures l.router) l.statics l.p))
