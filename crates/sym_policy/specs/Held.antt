-- What a reading makes of symbolic routes, failed links and interior distances.
use Rattle.std.specs.Prelude.{◌≡◌, ℕ, suc, ◌+◌, ◌==◌, max, if◌then◌else◌, Bool, List, [], ◌∷◌}
use Rattle.std.specs.Prelude.{Option, Some, None, option_map}
use Rattle.term_store.specs.Terms.{Reading, at}
use Rattle.term_arith.specs.Bits.{bits, number, ids_end}
use Rattle.route_record.specs.declared.BgpRec.{BgpRec}
use Rattle.route_record.specs.declared.Failures.{Failures}
use Rattle.route_record.specs.declared.OspfKind.{OspfKind}
use Rattle.route_record.specs.declared.OspfKind.TheVariants.{Internal, Ext1, Ext2}
use Rattle.route_record.specs.declared.OspfRec.{OspfRec}
use Rattle.route_record.specs.declared.tracked.Tracked.{Tracked}
use Rattle.route_shapes.specs.Bgp.{BgpShape, bgp_shape}
use Rattle.sym_policy.specs.declared.records.SymBgp.{SymBgp}
use Rattle.sym_policy.specs.declared.records.SymNet.{SymNet}
use Rattle.sym_policy.specs.declared.records.SymOspf.{SymOspf}

-- ---- OSPF routes

-- the kind of a number: 0 for an internal route, 1 for one of type 1 and every other for one of type 2
abbrev pub kind_of_number : ℕ → OspfKind
kind_of_number n = if n == 0 then Internal else (if n == 1 then Ext1 else Ext2)

-- the route, as if it were there
abbrev pub ospf_at : Reading → SymOspf → OspfRec
ospf_at w s = record {
  kind = kind_of_number (number w s.kind.nodes.items);
  metric = number w s.metric.nodes.items;
  cost = number w s.cost.nodes.items;
}

-- the route, where it is there
abbrev pub ospf_of : Reading → SymOspf → Option OspfRec
ospf_of w s = if at w s.valid then Some (ospf_at w s) else None

-- the least size of a store that has all nodes of the route
abbrev pub ospf_end : SymOspf → ℕ
ospf_end s =
    max (max (s.valid.0 + 1) (ids_end s.kind.nodes.items))
    (max (ids_end s.metric.nodes.items) (ids_end s.cost.nodes.items))

-- a cost or a distance, as an internal route with metric 0
abbrev pub internal_route : ℕ → OspfRec
internal_route cost = record { kind = Internal; metric = 0; cost = cost }

-- ---- failed links

-- the positions, from a first one on, of the values that are true
abbrev pub positions : ℕ → List Bool → List ℕ
positions first [] = []
positions first (b ∷ bs) = if b then first ∷ positions (suc first) bs else positions (suc first) bs

-- the links that have failed
unfoldable pub failures_of : Reading → SymNet → Failures
failures_of w net = record { links = positions 0 (bits w net.down) }

-- ---- BGP routes

-- the shape that a reading makes of a symbolic route, as if it were there
abbrev pub bgp_at : Reading → SymBgp → BgpShape
bgp_at w s = record {
  preferences = record {
    weight = number w s.weight.nodes.items;
    local_pref = number w s.local_pref.nodes.items;
    med = number w s.med.nodes.items;
    origin = number w s.origin.nodes.items;
  };
  path = record {
    len = number w s.len.nodes.items;
    first = number w s.first.nodes.items;
    last = number w s.last.nodes.items;
    numbers = bits w s.numbers.nodes.items;
  };
  communities = bits w s.communities.nodes.items;
  next_hop = number w s.next_hop.nodes.items;
  originator = number w s.originator.nodes.items;
  from = number w s.from.nodes.items;
  cluster_len = number w s.cluster_len.nodes.items;
  clusters = bits w s.clusters.nodes.items;
}

abbrev pub bgp_of : Reading → SymBgp → Option BgpShape
bgp_of w s = if at w s.valid then Some (bgp_at w s) else None

-- under the reading the symbolic route stands for that route, or for none
abbrev pub StandsForBgp : Reading → Tracked → SymBgp → Option BgpRec → Type 0
StandsForBgp w tracked s held = bgp_of w s ≡ option_map (bgp_shape tracked) held

-- the least size of a store that has all nodes of the route
abbrev pub bgp_end : SymBgp → ℕ
bgp_end s =
    max
    (max (max (s.valid.0 + 1) (max (ids_end s.weight.nodes.items) (ids_end s.local_pref.nodes.items)))
    (max (ids_end s.med.nodes.items) (ids_end s.origin.nodes.items)))
    (max
    (max (max (ids_end s.len.nodes.items) (ids_end s.first.nodes.items))
    (max (ids_end s.last.nodes.items) (ids_end s.numbers.nodes.items)))
    (max (max (ids_end s.communities.nodes.items) (ids_end s.next_hop.nodes.items))
    (max (max (ids_end s.originator.nodes.items) (ids_end s.from.nodes.items))
    (max (ids_end s.cluster_len.nodes.items) (ids_end s.clusters.nodes.items)))))
