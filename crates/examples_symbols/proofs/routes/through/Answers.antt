use Rattle.std.proofs.Common.{arith}
use Rattle.examples_symbols.proofs.RouteEnds.{map_within}
use Rattle.examples_symbols.proofs.routes.through.Goals as goal

pub sym_route_map-requires-clause-nodes : goal.sym_route_map-requires-clause-nodes
sym_route_map-requires-clause-nodes c =
    map_within (record { bgp = c.in_ok-bgp.bgp; type1 = c.in_ok-type1.type1 }) _ c.in_ok-bgp.ensures.within
    (omega (arith, c.in_ok-type1.ensures.within, c.in_ok-bgp.ensures.larger))
