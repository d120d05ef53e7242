use Rattle.std.proofs.Common.{◌≡◌, ◌++◌, drop}
use Rattle.std.specs.List.{filter_map}
use Rattle.net_interfaces.specs.Connected.{next_hop}
use Rattle.leaving_addresses.proofs.leaving.add_statics.Given as goal

-- the next hops so far, with those that are left, are all
abbrev pub invariant-loop-route : goal.invariant-loop-route
invariant-loop-route l =
    l.out-inside.items.items ++ filter_map (λ route. next_hop route.via) (drop l.route-index l.file.statics)
    ≡ l.fn.out ++ filter_map (λ route. next_hop route.via) l.file.statics
