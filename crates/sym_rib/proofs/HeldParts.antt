-- Copies of the path and the communities of a BGP route.
use Rattle.std.proofs.Common.{◌≡◌, ℕ, ◌≤◌, ap, arith}
use Rattle.sym_policy.specs.declared.records.SymBgp.{SymBgp}
use Rattle.sym_policy.specs.Held.{bgp_at, bgp_end}
use Rattle.sym_policy.specs.Routes.{path_at}
use Rattle.sym_policy.proofs.SameNodes.{path_read}
use Rattle.route_shapes.specs.Shapes.{RouteShape}
use Rattle.sym_rib.specs.declared.known_parts.HeldParts.{HeldParts}
use Rattle.sym_rib.specs.KnownParts.{HasPartsOf, held_parts_end}
use Rattle.term_store.specs.Terms.{Reading}
use Rattle.term_arith.specs.Bits.{bits, ids_end}

-- the copies have no node past those of the route
pub parts_within : (held : SymBgp) (s : HeldParts) (n : ℕ) → HasPartsOf held s → bgp_end held ≤ n
    → held_parts_end held.valid s ≤ n
parts_within held s n has within =
    let len = ap ids_end has.path.len in
    let first = ap ids_end has.path.first in
    let last = ap ids_end has.path.last in
    let numbers = ap ids_end has.path.numbers in
    let communities = ap ids_end has.communities in
    omega arith

-- so a record with the copies is seen as one with the route's path and communities
pub parts_read : (w : Reading) (held : SymBgp) (s : HeldParts) (before : RouteShape) → HasPartsOf held s
    → ◌≡◌ {A = RouteShape}
    (record before { path = path_at w s.path; communities = bits w s.communities.nodes.items })
    (record before { path = (bgp_at w held).path; communities = bits w held.communities.nodes.items })
parts_read w held s before has =
    λ i. record before { path = path_read w held s.path has.path i; communities = bits w (has.communities i) }
