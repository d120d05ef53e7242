-- The next hops of the static routes of one distance, one route at a time.
use Rattle.std.specs.Prelude.{ℕ, ◌==◌, ◌&&◌, not, Bool, true, List, filter}
use Rattle.std.specs.List.{flat_map}
use Rattle.mw_text.specs.declared.address.Prefix.{Prefix}
use Rattle.mw_text.specs.Address.{same_prefix}
use Rattle.ios_ast.specs.declared.file.File.{File}
use Rattle.ios_ast.specs.declared.file.StaticRoute.{StaticRoute}
use Rattle.ios_ast.specs.declared.file.Via.{Via}
use Rattle.ios_ast.specs.declared.file.Via.TheVariants.{Null0, Next, Out}
use Rattle.route_record.specs.declared.Failures.{Failures}
use Rattle.route_record.specs.declared.Packet.{Packet}
use Rattle.net_interfaces.specs.declared.interfaces.Addressed.{Addressed}
use Rattle.net_parts.specs.Routing.{is_reached, static_routes, up_interfaces}
use Rattle.question_lang.specs.declared.walk.Hop.{Hop}
use Rattle.question_lang.specs.Hops.{all_up, static_hops}

-- a route to the prefix, of that distance; one of distance 255 never counts
abbrev pub is_taken : Prefix → ℕ → StaticRoute → Bool
is_taken p distance route =
    not (route.distance == 255) && (same_prefix route.prefix p && (route.distance == distance))

-- it goes to Null0, or its next hop is on the subnet of one of the interfaces
abbrev pub leads_on : List Addressed → Via → Bool
leads_on up Null0 = true
leads_on up (Next a) = is_reached up a
leads_on up (Out named a) = is_reached up a

-- where one static route of the router leads
abbrev pub route_hops : List File → Failures → Packet → ℕ → StaticRoute → List Hop
route_hops files failures packet router route =
    static_hops files packet (all_up files failures) (up_interfaces files failures router) route

-- where those of that distance lead which are to the prefix and count
abbrev pub routes_hops : List File → Failures → Packet → ℕ → Prefix → ℕ → List StaticRoute → List Hop
routes_hops files failures packet router p distance routes =
    flat_map (static_hops files packet (all_up files failures) (up_interfaces files failures router))
    (filter (λ route. route.distance == distance) (static_routes (up_interfaces files failures router) routes p))
