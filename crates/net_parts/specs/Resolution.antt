-- Resolution of next hops, and which BGP sessions are up (RFC 4271, sections 5.1.3 and 8.2).
use Rattle.std.specs.Prelude.{ℕ, ◌&&◌, ◌||◌, Bool, false, List, is_some, slice_get, Option, Some, option_and_then}
use Rattle.std.specs.Prelude.{if◌then◌else◌}
use Rattle.std.specs.List.{find, list_any}
use Rattle.std.specs.Option.{option_map_or}
use Rattle.mw_text.specs.declared.address.Addr.{Addr}
use Rattle.mw_text.specs.Address.{covers}
use Rattle.ios_ast.specs.declared.file.File.{File}
use Rattle.route_record.specs.declared.Failures.{Failures}
use Rattle.net_parts.specs.declared.sessions.Far.{Far}
use Rattle.net_parts.specs.declared.sessions.Far.TheVariants.{Outside, Inside}
use Rattle.net_parts.specs.declared.sessions.SessionEnd.{SessionEnd}
use Rattle.net_parts.specs.Distances.{interior_distance}
use Rattle.net_parts.specs.Ospf.{advertised, is_up_at}
use Rattle.net_parts.specs.Routing.{up_interfaces}
use Rattle.net_parts.specs.Sessions.{ends_of, neighbour_of}

-- an address that an up interface's subnet has costs 0; else it costs the interior distance to the advertised prefix
-- that contains it; else it is not resolved
unfoldable pub resolved : List File → Failures → ℕ → Addr → Option ℕ
resolved files failures router a =
    if list_any (λ x. covers x.subnet a) (up_interfaces files failures router) then Some 0
    else option_and_then (interior_distance files failures router) (find (λ p. covers p a) (advertised files))

-- the router at an end resolves the address of its neighbour
abbrev pub resolves_neighbour : List File → Failures → SessionEnd → Bool
resolves_neighbour files failures end =
    option_map_or (λ neighbour. is_some (resolved files failures end.router neighbour.addr))
    (neighbour_of files end) false

-- the two ends of a session between routers: over a shared subnet it is up where both interfaces are, else where
-- moreover both resolve each other
abbrev pub is_up_between : List File → Failures → SessionEnd → SessionEnd → Bool
is_up_between files failures end far =
    (is_up_at files failures end.own && is_up_at files failures far.own)
    && (end.shared || (resolves_neighbour files failures end && resolves_neighbour files failures far))

-- the session of an end is up. With an external peer it is where the router's own interface is
unfoldable pub session_up : List File → Failures → SessionEnd → Bool
session_up files failures end = by_far end.far where
  by_far : Far → Bool
  by_far Outside = is_up_at files failures end.own
  by_far (Inside at) = option_map_or (is_up_between files failures end) (slice_get (ends_of files) at) false
