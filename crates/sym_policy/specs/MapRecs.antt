-- What a reading makes of the symbolic record that a route map acts on.
use Rattle.std.specs.Prelude.{◌≡◌, ℕ, ◌+◌, ◌≤◌, max, if◌then◌else◌, Option, Some, None, length}
use Rattle.term_store.specs.Terms.{Store, Reading, size, at}
use Rattle.term_store.specs.Reading.{Reads}
use Rattle.term_arith.specs.Bits.{bits, number, ids_end}
use Rattle.route_record.specs.declared.tracked.Tracked.{Tracked}
use Rattle.sym_policy.specs.declared.records.SymBgp.{SymBgp}
use Rattle.sym_policy.specs.declared.records.SymMapRec.{SymMapRec}
use Rattle.sym_policy.specs.declared.parts.SymMade.{SymMade}
use Rattle.sym_policy.specs.Routes.{made_at}
use Rattle.route_shapes.specs.Shapes.{RouteShape}

-- what route maps see of the record, as if it were there
abbrev pub attributes_at : Reading → SymMapRec → RouteShape
attributes_at w rec = record {
  preferences = record {
    weight = number w rec.bgp.weight.nodes.items;
    local_pref = number w rec.bgp.local_pref.nodes.items;
    med = number w rec.bgp.med.nodes.items;
    origin = number w rec.bgp.origin.nodes.items;
  };
  path = record {
    len = number w rec.bgp.len.nodes.items;
    first = number w rec.bgp.first.nodes.items;
    last = number w rec.bgp.last.nodes.items;
    numbers = bits w rec.bgp.numbers.nodes.items;
  };
  communities = bits w rec.bgp.communities.nodes.items;
  type1 = at w rec.type1;
}

-- the record, where it is there
abbrev pub map_rec_at : Reading → SymMapRec → Option RouteShape
map_rec_at w rec = if at w rec.bgp.valid then Some (attributes_at w rec) else None

-- the least size of a store that has all nodes of the record which route maps see and may set
abbrev pub seen_end : SymMapRec → ℕ
seen_end rec =
    max
    (max (max (ids_end rec.bgp.weight.nodes.items) (ids_end rec.bgp.local_pref.nodes.items))
    (max (ids_end rec.bgp.med.nodes.items) (ids_end rec.bgp.origin.nodes.items)))
    (max
    (max (max (ids_end rec.bgp.len.nodes.items) (ids_end rec.bgp.first.nodes.items))
    (max (ids_end rec.bgp.last.nodes.items) (ids_end rec.bgp.numbers.nodes.items)))
    (max (ids_end rec.bgp.communities.nodes.items) (rec.type1.0 + 1)))

-- and of all other nodes, but that of its validity
abbrev pub kept_end : SymMapRec → ℕ
kept_end rec =
    max (max (ids_end rec.bgp.next_hop.nodes.items) (ids_end rec.bgp.originator.nodes.items))
    (max (ids_end rec.bgp.from.nodes.items)
    (max (ids_end rec.bgp.cluster_len.nodes.items) (ids_end rec.bgp.clusters.nodes.items)))

abbrev pub map_rec_end : SymMapRec → ℕ
map_rec_end rec = max (rec.bgp.valid.0 + 1) (max (seen_end rec) (kept_end rec))

-- there is one node for each tracked number and community
pub record HasMarks (tracked : Tracked) (rec : SymMapRec) : Type 0 where
  pub numbers : length rec.bgp.numbers.nodes.items ≡ length tracked.numbers
  pub communities : length rec.bgp.communities.nodes.items ≡ length tracked.communities

-- there is one node for each tracked number, community and cluster
pub record HasTracked (tracked : Tracked) (s : SymBgp) : Type 0 where
  pub numbers : length s.numbers.nodes.items ≡ length tracked.numbers
  pub communities : length s.communities.nodes.items ≡ length tracked.communities
  pub clusters : length s.clusters.nodes.items ≡ length tracked.clusters

-- what route maps never set has the same nodes in both records
pub record KeepsRest (a b : SymMapRec) : Type 0 where
  pub next_hop : b.bgp.next_hop.nodes.items ≡ a.bgp.next_hop.nodes.items
  pub originator : b.bgp.originator.nodes.items ≡ a.bgp.originator.nodes.items
  pub from : b.bgp.from.nodes.items ≡ a.bgp.from.nodes.items
  pub cluster_len : b.bgp.cluster_len.nodes.items ≡ a.bgp.cluster_len.nodes.items
  pub clusters : b.bgp.clusters.nodes.items ≡ a.bgp.clusters.nodes.items

-- the record with what a map makes of it: it is there where it was there before and the map permits it
pub record IsMade (t : Store) (before : SymMapRec) (made : SymMade) (rec : SymMapRec) : Type 0 where
  pub within : map_rec_end rec ≤ size t
  pub numbers : length rec.bgp.numbers.nodes.items ≡ length made.route.path.numbers.nodes.items
  pub communities : length rec.bgp.communities.nodes.items ≡ length made.route.communities.nodes.items
  pub rest : KeepsRest before rec
  pub value : (w : Reading) → Reads w t
      → map_rec_at w rec ≡ (if at w before.bgp.valid then made_at w made else None)
