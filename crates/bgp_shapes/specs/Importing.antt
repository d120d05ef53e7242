-- What a router makes of the shape of a message (RFC 4271, section 9.1.1; RFC 4456, section 8).
use Rattle.std.specs.Prelude.{ℕ, ◌+◌, ◌^◌, ◌==◌, ◌&&◌, Bool, not, nat_le, List, Option, Some, None, option_and_then}
use Rattle.std.specs.Prelude.{slice_get, if◌then◌else◌}
use Rattle.mw_text.specs.declared.address.Prefix.{Prefix}
use Rattle.ios_ast.specs.declared.bgp.Bgp.{Bgp}
use Rattle.ios_ast.specs.declared.bgp.Neighbour.{Neighbour}
use Rattle.ios_ast.specs.declared.file.File.{File}
use Rattle.route_record.specs.declared.tracked.Tracked.{Tracked}
use Rattle.net_parts.specs.declared.sessions.SessionEnd.{SessionEnd}
use Rattle.net_parts.specs.Exports.{is_reflector, most_numbers, passes_prefixes, router_id}
use Rattle.net_parts.specs.Sessions.{neighbour_of}
use Rattle.net_parts.specs.Tracked.{numbers_of}
use Rattle.route_shapes.specs.Bgp.{BgpShape}
use Rattle.route_shapes.specs.Shapes.{marked, shape_passes_paths, shape_through_map}
use Rattle.bgp_shapes.specs.Messages.{seen_by_maps, with_seen}

-- no loop by the router's AS, by its identifier or by its cluster, and no path that is too long
abbrev pub shape_is_acceptable : Tracked → List File → ℕ → Bgp → BgpShape → Bool
shape_is_acceptable tracked files router process s =
    (not (marked tracked.numbers s.path.numbers process.asn) && nat_le s.path.len most_numbers)
    && (not (s.originator == 2 ^ 32 + (router_id files router).0)
    && not (is_reflector process && marked (numbers_of tracked.clusters) s.clusters (router_id files router).0))

-- the route of a message before the incoming map
abbrev pub shape_received : Neighbour → SessionEnd → BgpShape → BgpShape
shape_received neighbour end s =
    record s {
      preferences = record s.preferences {
        weight = neighbour.weight;
        local_pref = if end.internal then s.preferences.local_pref else 100;
      };
      from = 2 ^ 32 + neighbour.addr.0;
    }

-- a route whose path the map did not make too long
abbrev pub shape_if_short : BgpShape → Option BgpShape
shape_if_short s = if nat_le s.path.len most_numbers then Some s else None

-- the route as the incoming map leaves it
abbrev pub shape_mapped_in : Tracked → File → Neighbour → SessionEnd → Prefix → BgpShape → Option BgpShape
shape_mapped_in tracked file neighbour end p s =
    option_and_then (λ r. shape_if_short (with_seen s r))
    (shape_through_map tracked file.policies neighbour.map_in p (not end.internal) (seen_by_maps s))

-- the route of a message after the incoming lists and the incoming map
abbrev pub shape_taken_in : Tracked → List File → File → Bgp → Neighbour → SessionEnd → Prefix → BgpShape →
    Option BgpShape
shape_taken_in tracked files file process neighbour end p s =
    if shape_is_acceptable tracked files end.router process s
    && (passes_prefixes file.policies neighbour.prefix_in p
    && shape_passes_paths tracked file.policies neighbour.filter_in s.path)
    then shape_mapped_in tracked file neighbour end p (shape_received neighbour end s)
    else None

-- what the router at an end makes of a message that it receives over the session, if it takes it
unfoldable pub shape_imported : Tracked → List File → SessionEnd → Prefix → BgpShape → Option BgpShape
shape_imported tracked files end p s =
    option_and_then (λ file. option_and_then (λ process. option_and_then (λ neighbour.
    shape_taken_in tracked files file process neighbour end p s) (neighbour_of files end)) file.bgp)
    (slice_get files end.router)
