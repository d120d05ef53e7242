-- What a router sends of the shape of a route (RFC 4271, sections 5 and 9.1.3; RFC 4456, section 8; RFC 1997).
use Rattle.std.specs.Prelude.{ℕ, ◌+◌, ◌^◌, ◌==◌, ◌&&◌, ◌||◌, Bool, true, false, not, List, [], ◌∷◌, map, Option, None}
use Rattle.std.specs.Prelude.{option_and_then, option_map, slice_get, if◌then◌else◌}
use Rattle.mw_text.specs.declared.address.Addr.{Addr}
use Rattle.mw_text.specs.declared.address.Prefix.{Prefix}
use Rattle.ios_ast.specs.declared.bgp.Bgp.{Bgp}
use Rattle.ios_ast.specs.declared.bgp.Neighbour.{Neighbour}
use Rattle.ios_ast.specs.declared.file.File.{File}
use Rattle.route_record.specs.declared.tracked.Tracked.{Tracked}
use Rattle.route_record.specs.Shape.{saturated}
use Rattle.net_parts.specs.declared.sessions.SessionEnd.{SessionEnd}
use Rattle.net_parts.specs.Exports.{no_advertise, no_export, own_address, passes_prefixes, router_id}
use Rattle.net_parts.specs.Sessions.{neighbour_of}
use Rattle.net_parts.specs.Tracked.{numbers_of}
use Rattle.route_shapes.specs.Bgp.{BgpShape}
use Rattle.route_shapes.specs.Shapes.{RouteShape, marked, marks_with, shape_passes_paths, shape_prepended}
use Rattle.route_shapes.specs.Shapes.{shape_through_map}
use Rattle.bgp_shapes.specs.Crossings.{Crossing, crossing, end_numbered}
use Rattle.bgp_shapes.specs.Messages.{lacks_address, seen_by_maps, shape_sets_metric}

-- the route may go: no community forbids it, and the session over which it came does not
abbrev pub shape_may_go : Tracked → SessionEnd → BgpShape → Crossing → Bool
shape_may_go tracked end s x =
    not (marked tracked.communities s.communities no_advertise)
    && (not (marked tracked.communities s.communities no_export && not end.internal) && x.may)

-- communities go with `send-community` alone
abbrev pub sent_marks : Tracked → Neighbour → List Bool → List Bool
sent_marks tracked neighbour marks =
    if neighbour.send_community then marks else marks_with tracked.communities [] false marks

-- over an external session: the own AS in front of the path, the own address as next hop, a metric where the path was
-- empty before or the map set one, and neither local preference, originator nor clusters
abbrev pub external_shape : Tracked → Bgp → Neighbour → Addr → Bool → RouteShape → BgpShape
external_shape tracked process neighbour own keeps_med r = record {
  preferences = record {
    weight = 0;
    local_pref = 0;
    med = if keeps_med then r.preferences.med else 0;
    origin = r.preferences.origin;
  };
  path = shape_prepended tracked.numbers (process.asn ∷ []) r.path;
  communities = sent_marks tracked neighbour r.communities;
  next_hop = own.0;
  originator = 0;
  from = 0;
  cluster_len = 0;
  clusters = map (λ a. false) tracked.clusters;
}

-- a route that is reflected gets an originator, where it has none
abbrev pub shape_originator : BgpShape → Crossing → ℕ
shape_originator s x = if x.reflected && lacks_address s.originator then 2 ^ 32 + x.peer else s.originator

-- over an internal session path, local preference and metric stay as the map leaves them; a route that is reflected
-- gets the own cluster identifier in front of its clusters
abbrev pub internal_shape : Tracked → Neighbour → Addr → Addr → BgpShape → Crossing → RouteShape → BgpShape
internal_shape tracked neighbour own id s x r = record {
  preferences = record r.preferences { weight = 0 };
  path = r.path;
  communities = sent_marks tracked neighbour r.communities;
  next_hop = if x.own_hop then own.0 else s.next_hop;
  originator = shape_originator s x;
  from = 0;
  cluster_len = if x.reflected then saturated (s.cluster_len + 1) else s.cluster_len;
  clusters = if x.reflected then marks_with (numbers_of tracked.clusters) (id.0 ∷ []) true s.clusters else s.clusters;
}

-- the message of what the outgoing map leaves
abbrev pub shape_message : Tracked → List File → File → Bgp → Neighbour → SessionEnd → Prefix → BgpShape → Crossing →
    RouteShape → BgpShape
shape_message tracked files file process neighbour end p s x r =
    if end.internal
    then internal_shape tracked neighbour (own_address files end) (router_id files end.router) s x r
    else external_shape tracked process neighbour (own_address files end)
    ((s.path.len == 0) || shape_sets_metric tracked file.policies neighbour.map_out p (seen_by_maps s)) r

-- the message after the outgoing lists and the outgoing map, by how the route crosses the router
abbrev pub shape_sent_by : Tracked → List File → File → Bgp → Neighbour → SessionEnd → Prefix → BgpShape → Crossing →
    Option BgpShape
shape_sent_by tracked files file process neighbour end p s x =
    if shape_may_go tracked end s x
    && (passes_prefixes file.policies neighbour.prefix_out p
    && shape_passes_paths tracked file.policies neighbour.filter_out s.path)
    then option_map (shape_message tracked files file process neighbour end p s x)
    (shape_through_map tracked file.policies neighbour.map_out p (not end.internal) (seen_by_maps s))
    else None

abbrev pub shape_sent : Tracked → List File → File → Bgp → Neighbour → SessionEnd → Prefix → BgpShape → Option BgpShape
shape_sent tracked files file process neighbour end p s =
    shape_sent_by tracked files file process neighbour end p s
    (crossing files process neighbour end (end_numbered files end.router s.from))

-- what the router at an end sends over the session of the route that it holds for the prefix, if anything
unfoldable pub shape_exported : Tracked → List File → SessionEnd → Prefix → BgpShape → Option BgpShape
shape_exported tracked files end p s =
    option_and_then (λ file. option_and_then (λ process. option_and_then (λ neighbour.
    shape_sent tracked files file process neighbour end p s) (neighbour_of files end)) file.bgp)
    (slice_get files end.router)
