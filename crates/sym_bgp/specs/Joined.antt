-- Routes of what route maps see of them and of the rest.
use Rattle.std.specs.Prelude.{◌≡◌, ℕ, ◌+◌, ◌^◌, ◌&&◌, Bool, true, if◌then◌else◌, List, [], ◌∷◌, Option}
use Rattle.std.specs.Prelude.{option_map}
use Rattle.term_store.specs.Terms.{Reading}
use Rattle.term_arith.specs.Bits.{bits, number}
use Rattle.mw_text.specs.declared.address.Prefix.{Prefix}
use Rattle.ios_ast.specs.declared.bgp.Bgp.{Bgp}
use Rattle.ios_ast.specs.declared.bgp.Neighbour.{Neighbour}
use Rattle.ios_ast.specs.declared.file.File.{File}
use Rattle.ios_ast.specs.declared.file.Use.{Use}
use Rattle.ios_ast.specs.declared.policies.Policies.{Policies}
use Rattle.route_record.specs.declared.tracked.Tracked.{Tracked}
use Rattle.route_shapes.specs.Bgp.{BgpShape}
use Rattle.route_record.specs.Shape.{saturated}
use Rattle.net_parts.specs.declared.sessions.SessionEnd.{SessionEnd}
use Rattle.net_parts.specs.Exports.{own_address, router_id}
use Rattle.net_parts.specs.Tracked.{numbers_of}
use Rattle.route_shapes.specs.Shapes.{RouteShape, marks_with, shape_through_map}
use Rattle.bgp_shapes.specs.Crossings.{Crossing}
use Rattle.bgp_shapes.specs.Exporting.{external_shape, internal_shape}
use Rattle.bgp_shapes.specs.Messages.{lacks_address, seen_by_maps, with_seen}
use Rattle.sym_policy.specs.declared.parts.SymRest.{SymRest}

-- what no map sees of a route
pub record RestShape : Type 0 where
  pub next_hop : ℕ
  pub originator : ℕ
  pub from : ℕ
  pub cluster_len : ℕ
  pub clusters : List Bool

abbrev pub rest_at : Reading → SymRest → RestShape
rest_at w s = record {
  next_hop = number w s.next_hop.nodes.items;
  originator = number w s.originator.nodes.items;
  from = number w s.from.nodes.items;
  cluster_len = number w s.cluster_len.nodes.items;
  clusters = bits w s.clusters.nodes.items;
}

abbrev pub rest_of_shape : BgpShape → RestShape
rest_of_shape s = record {
  next_hop = s.next_hop;
  originator = s.originator;
  from = s.from;
  cluster_len = s.cluster_len;
  clusters = s.clusters;
}

abbrev pub with_rest : RouteShape → RestShape → BgpShape
with_rest seen rest = record {
  preferences = seen.preferences;
  path = seen.path;
  communities = seen.communities;
  next_hop = rest.next_hop;
  originator = rest.originator;
  from = rest.from;
  cluster_len = rest.cluster_len;
  clusters = rest.clusters;
}

-- what is sent over an internal session beside what maps see
abbrev pub rest_sent : Tracked → ℕ → ℕ → Crossing → BgpShape → RestShape
rest_sent tracked own id x t = record {
  next_hop = if x.own_hop then own else t.next_hop;
  originator = if x.reflected && lacks_address t.originator then 2 ^ 32 + x.peer else t.originator;
  from = 0;
  cluster_len = if x.reflected then saturated (t.cluster_len + 1) else t.cluster_len;
  clusters = if x.reflected then marks_with (numbers_of tracked.clusters) (id ∷ []) true t.clusters else t.clusters;
}

-- the message of a route that the outgoing map has left
abbrev pub sent_of : Tracked → List File → Bgp → Neighbour → SessionEnd → Bool → Crossing → BgpShape → BgpShape
sent_of tracked files process neighbour end keeps x t =
    if end.internal
    then internal_shape tracked neighbour (own_address files end) (router_id files end.router) t x (seen_by_maps t)
    else external_shape tracked process neighbour (own_address files end) keeps (seen_by_maps t)

-- a route as the map leaves it that is applied, if one is
abbrev pub shape_through : Tracked → Policies → Option Use → Prefix → Bool → BgpShape → Option BgpShape
shape_through tracked policies used p external s =
    option_map (with_seen s) (shape_through_map tracked policies used p external (seen_by_maps s))
