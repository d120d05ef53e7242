use Rattle.std.proofs.Common.{◌≡◌, map}
use Rattle.std.specs.List.{range_with_len}
use Rattle.net_parts.specs.Distances.{own_cost}
use Rattle.proto_ospf.proofs.distances.own_costs.Given as goal

-- those so far are the first
abbrev pub invariant-loop-router : goal.invariant-loop-router
invariant-loop-router l = l.own-inside.items.items ≡ map (own_cost l.net.files l.failures l.p) (range_with_len 0 l.router)
