-- Messages by their shapes, and what the lists and route maps of a neighbour answer for the shape of a route.
use Rattle.std.specs.Prelude.{ℕ, ◌^◌, Bool, false, nat_lt, Option, unwrap_or}
use Rattle.std.specs.List.{find, list_any}
use Rattle.std.specs.Option.{option_map_or}
use Rattle.mw_text.specs.declared.address.Prefix.{Prefix}
use Rattle.ios_ast.specs.declared.file.Use.{Use}
use Rattle.ios_ast.specs.declared.policies.Policies.{Policies}
use Rattle.ios_ast.specs.Deciding.{in_order}
use Rattle.route_record.specs.declared.BgpMsg.{BgpMsg}
use Rattle.route_record.specs.declared.BgpRec.{BgpRec}
use Rattle.route_record.specs.declared.Learnt.TheVariants.{Local}
use Rattle.route_record.specs.declared.tracked.Tracked.{Tracked}
use Rattle.net_parts.specs.Exports.{is_metric}
use Rattle.ios_ast.specs.Maps.{entries_named}
use Rattle.route_shapes.specs.Bgp.{BgpShape, bgp_shape}
use Rattle.route_shapes.specs.Shapes.{RouteShape, shape_route_taken}

-- a message as a route: it has weight 0 and no peer, and a local preference or a MED that it lacks is 0
abbrev pub as_route : BgpMsg → BgpRec
as_route m = record {
  from = Local;
  weight = 0;
  local_pref = unwrap_or m.local_pref 0;
  path = m.path;
  origin = m.origin;
  med = unwrap_or m.med 0;
  communities = m.communities;
  next_hop = m.next_hop;
  originator = m.originator;
  clusters = m.clusters;
}

-- the shape of a message is that of this route
abbrev pub message_shape : Tracked → BgpMsg → BgpShape
message_shape tracked m = bgp_shape tracked (as_route m)

-- an address that may be missing is missing
abbrev pub lacks_address : ℕ → Bool
lacks_address n = nat_lt n (2 ^ 32)

-- what route maps see of a route, and the route with what a map has left of it
abbrev pub seen_by_maps : BgpShape → RouteShape
seen_by_maps s = record {
  preferences = s.preferences;
  path = s.path;
  communities = s.communities;
  type1 = false;
}

abbrev pub with_seen : BgpShape → RouteShape → BgpShape
with_seen s r = record s { preferences = r.preferences; path = r.path; communities = r.communities }

-- a set line of the deciding entry sets the metric
abbrev pub shape_sets_metric : Tracked → Policies → Option Use → Prefix → RouteShape → Bool
shape_sets_metric tracked policies used p s =
    option_map_or (λ named. option_map_or (λ e. list_any is_metric e.sets)
    (find (shape_route_taken policies tracked p s) (in_order (λ e. e.seq) (entries_named policies named))) false)
    used false
