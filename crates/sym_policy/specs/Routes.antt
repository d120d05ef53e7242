-- What a reading makes of the part of a symbolic route that route maps see.
use Rattle.std.specs.Prelude.{◌≡◌, ℕ, ◌+◌, max, if◌then◌else◌, Option, Some, None, [], length, map}
use Rattle.term_store.specs.Terms.{Reading, at}
use Rattle.term_arith.specs.Bits.{bits, number, ids_end}
use Rattle.route_record.specs.declared.tracked.Tracked.{Tracked}
use Rattle.route_record.specs.Shape.{has_address}
use Rattle.sym_policy.specs.declared.parts.SymPath.{SymPath}
use Rattle.sym_policy.specs.declared.parts.SymPreferences.{SymPreferences}
use Rattle.sym_policy.specs.declared.parts.SymRest.{SymRest}
use Rattle.sym_policy.specs.declared.parts.SymRoute.{SymRoute}
use Rattle.sym_policy.specs.declared.parts.SymMade.{SymMade}
use Rattle.route_shapes.specs.Shapes.{PathShape, Preferences, RouteShape}

abbrev pub path_at : Reading → SymPath → PathShape
path_at w s = record {
  len = number w s.len.nodes.items;
  first = number w s.first.nodes.items;
  last = number w s.last.nodes.items;
  numbers = bits w s.numbers.nodes.items;
}

abbrev pub preferences_at : Reading → SymPreferences → Preferences
preferences_at w s = record {
  weight = number w s.weight.nodes.items;
  local_pref = number w s.local_pref.nodes.items;
  med = number w s.med.nodes.items;
  origin = number w s.origin.nodes.items;
}

abbrev pub route_at : Reading → SymRoute → RouteShape
route_at w s = record {
  preferences = preferences_at w s.preferences;
  path = path_at w s.path;
  communities = bits w s.communities.nodes.items;
  type1 = at w s.type1;
}

abbrev pub made_at : Reading → SymMade → Option RouteShape
made_at w m = if at w m.valid then Some (route_at w m.route) else None

-- the least size of a store that has all of its nodes
abbrev pub path_end : SymPath → ℕ
path_end s =
    max (max (ids_end s.len.nodes.items) (ids_end s.first.nodes.items))
    (max (ids_end s.last.nodes.items) (ids_end s.numbers.nodes.items))

abbrev pub preferences_end : SymPreferences → ℕ
preferences_end s =
    max (max (ids_end s.weight.nodes.items) (ids_end s.local_pref.nodes.items))
    (max (ids_end s.med.nodes.items) (ids_end s.origin.nodes.items))

abbrev pub route_end : SymRoute → ℕ
route_end s =
    max (preferences_end s.preferences)
    (max (path_end s.path) (max (ids_end s.communities.nodes.items) (s.type1.0 + 1)))

abbrev pub rest_end : SymRest → ℕ
rest_end s =
    max (max (ids_end s.next_hop.nodes.items) (ids_end s.originator.nodes.items))
    (max (ids_end s.from.nodes.items) (max (ids_end s.cluster_len.nodes.items) (ids_end s.clusters.nodes.items)))

abbrev pub made_end : SymMade → ℕ
made_end m = max (m.valid.0 + 1) (route_end m.route)

-- the rows of tracked values are as long in both
pub record SameRows (a b : SymRoute) : Type 0 where
  pub numbers : length a.path.numbers.nodes.items ≡ length b.path.numbers.nodes.items
  pub communities : length a.communities.nodes.items ≡ length b.communities.nodes.items

-- there is one node for each tracked value
pub record HasRows (tracked : Tracked) (s : SymRoute) : Type 0 where
  pub numbers : length s.path.numbers.nodes.items ≡ length tracked.numbers
  pub communities : length s.communities.nodes.items ≡ length tracked.communities

-- under the reading these have that next hop, and neither originator, peer nor clusters
pub record IsBare (w : Reading) (tracked : Tracked) (hop : ℕ) (s : SymRest) : Type 0 where
  pub next_hop : number w s.next_hop.nodes.items ≡ hop
  pub originator : number w s.originator.nodes.items ≡ 0
  pub from : number w s.from.nodes.items ≡ 0
  pub cluster_len : number w s.cluster_len.nodes.items ≡ 0
  pub clusters : bits w s.clusters.nodes.items ≡ map (has_address []) tracked.clusters
