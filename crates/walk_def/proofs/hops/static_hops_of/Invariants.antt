use Rattle.std.proofs.Common.{◌≡◌, ◌++◌, drop, ◌==◌}
use Rattle.std.specs.Prelude.{filter}
use Rattle.std.specs.List.{flat_map}
use Rattle.net_parts.specs.Routing.{static_routes}
use Rattle.question_lang.specs.Hops.{static_hops}
use Rattle.walk_def.proofs.hops.static_hops_of.Given as goal

-- the hops so far and those of the routes that are left
abbrev pub invariant-loop-route : goal.invariant-loop-route
invariant-loop-route l =
    let holder = l.holder in
    let sent = static_hops holder.net.now.files holder.world.now.packet holder.up.now holder.own.now in
    l.out ++ flat_map sent (filter (λ route. route.distance == l.distance)
    (static_routes holder.own.now (drop l.route-index holder.file.now.statics) l.p))
    ≡ flat_map sent (filter (λ route. route.distance == l.distance)
    (static_routes holder.own.now holder.file.now.statics l.p))
