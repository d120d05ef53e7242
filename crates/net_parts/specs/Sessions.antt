-- Ends of BGP sessions (RFC 4271, section 8; Cisco IOS, `neighbor remote-as` and `neighbor update-source`).
use Rattle.std.specs.Prelude.{ℕ, ◌+◌, ◌<◌, ◌==◌, ◌&&◌, ◌||◌, ⊤, Bool, true, false, not, List, [], ◌∷◌, ◌++◌, filter}
use Rattle.std.specs.Prelude.{IsSome, is_some, length, map, position, slice_get, Option, option_and_then, unwrap_or}
use Rattle.std.specs.Prelude.{if◌then◌else◌}
use Rattle.std.specs.List.{find, list_any}
use Rattle.std.specs.Option.{option_map_or}
use Rattle.mw_text.specs.Address.{covers, same_prefix}
use Rattle.mw_text.specs.Text.{same_text}
use Rattle.ios_ast.specs.declared.bgp.Neighbour.{Neighbour}
use Rattle.ios_ast.specs.declared.file.File.{File}
use Rattle.net_interfaces.specs.declared.interfaces.Addressed.{Addressed}
use Rattle.net_parts.specs.declared.sessions.Far.{Far}
use Rattle.net_parts.specs.declared.sessions.Far.TheVariants.{Outside, Inside}
use Rattle.net_parts.specs.declared.sessions.Peering.{Peering}
use Rattle.net_parts.specs.declared.sessions.SessionEnd.{SessionEnd}
use Rattle.net_interfaces.specs.Interfaces.{addressed}

-- the router runs BGP
abbrev pub runs_bgp : File → Bool
runs_bgp file = is_some file.bgp

-- the interface has that name in the file of its router
abbrev pub has_name : File → Addressed → List ℕ → Bool
has_name file x name = option_map_or (λ iface. same_text iface.name name) (slice_get file.interfaces x.id.at) false

-- a router speaks to a neighbour from the interface that `update-source` names, and without that line from the one
-- whose subnet has the neighbour's address
abbrev pub speaks_from : File → Neighbour → Addressed → Bool
speaks_from file neighbour x =
    option_map_or (λ named. has_name file x named.name) neighbour.source (covers x.subnet neighbour.addr)

-- a neighbour line with the AS number of its router and the interface from which the router speaks to that neighbour
abbrev pub peering : ℕ → ℕ → ℕ → Neighbour → Addressed → Peering
peering router asn at neighbour source = record {
  router = router;
  at = at;
  asn = asn;
  neighbour = neighbour.addr;
  remote = neighbour.asn;
  shutdown = neighbour.shutdown;
  source = source;
}

-- the neighbour lines of one router, from that place on, which have such an interface among the router's own
abbrev pub peerings_from : List Addressed → ℕ → File → ℕ → ℕ → List Neighbour → List Peering
peerings_from own router file asn at [] = []
peerings_from own router file asn at (neighbour ∷ rest) =
    option_map_or (λ source. peering router asn at neighbour source ∷ []) (find (speaks_from file neighbour) own) []
    ++ peerings_from own router file asn (at + 1) rest

-- those of one router
abbrev pub peerings_of : List Addressed → ℕ → File → List Peering
peerings_of all router file =
    option_map_or (λ bgp. peerings_from
    (filter (λ x. x.id.router == router) all) router file bgp.asn 0 bgp.neighbours) file.bgp []

-- those of the routers from that number on
abbrev pub peerings_routers : List Addressed → ℕ → List File → List Peering
peerings_routers all router [] = []
peerings_routers all router (file ∷ rest) = peerings_of all router file ++ peerings_routers all (router + 1) rest

-- all of them, by router and then by neighbour line
unfoldable pub peerings : List File → List Peering
peerings files = peerings_routers (addressed files) 0 files

-- the one names the other's address with the other's AS
abbrev pub names_other : Peering → Peering → Bool
names_other a b = (a.neighbour.0 == b.source.addr.0) && (a.remote == b.asn)

-- two routers have a session where each names the other; over an external one both addresses are on one subnet
abbrev pub meet : Peering → Peering → Bool
meet a b =
    not (a.router == b.router) && (names_other a b && (names_other b a
    && ((a.asn == b.asn) || same_prefix a.source.subnet b.source.subnet)))

-- an external peer: its address is no interface's of the files, and lies on the subnet of the router's own interface
abbrev pub is_external_peer : List Addressed → Peering → Bool
is_external_peer all a =
    not (list_any (λ x. x.addr.0 == a.neighbour.0) all) && covers a.source.subnet a.neighbour

-- the neighbour lines that are not shut down
abbrev pub speaking : List File → List Peering
speaking files = filter (λ a. not a.shutdown) (peerings files)

-- a session stands for each of these which meets that of another router, or names an external peer
abbrev pub has_session : List Addressed → List Peering → Peering → Bool
has_session all others a = is_external_peer all a || list_any (meet a) others

unfoldable pub sessions : List File → List Peering
sessions files = filter (has_session (addressed files) (speaking files)) (speaking files)

-- what lies at the far side: an external peer, or the end of the other router, by its place
abbrev pub far_of : List Addressed → List Peering → Peering → Far
far_of all others a = if is_external_peer all a then Outside else Inside (unwrap_or (position (meet a) others) 0)

abbrev pub end_of : List Addressed → List Peering → Peering → SessionEnd
end_of all others a = record {
  router = a.router;
  neighbour = a.at;
  far = far_of all others a;
  internal = a.asn == a.remote;
  own = a.source.id;
  shared = covers a.source.subnet a.neighbour;
}

-- the ends of all sessions, by router and then by neighbour line
unfoldable pub ends_of : List File → List SessionEnd
ends_of files = map (end_of (addressed files) (sessions files)) (sessions files)

-- the ends of one router, by neighbour line
abbrev pub ends_at : List File → ℕ → List SessionEnd
ends_at files router = filter (λ end. end.router == router) (ends_of files)

abbrev pub is_outside : Far → Bool
is_outside Outside = true
is_outside (Inside at) = false

-- the ends towards external peers
abbrev pub external_ends : List File → List SessionEnd
external_ends files = filter (λ end. is_outside end.far) (ends_of files)

-- the neighbour line of an end
abbrev pub neighbour_of : List File → SessionEnd → Option Neighbour
neighbour_of files end =
    option_and_then (λ bgp. slice_get bgp.neighbours end.neighbour)
    (option_and_then (λ file. file.bgp) (slice_get files end.router))

-- what lies at the far side, if it is no external peer, is one of so many ends
abbrev pub FarIsWithin : ℕ → Far → Type 0
FarIsWithin count Outside = ⊤
FarIsWithin count (Inside at) = at < count

-- an end is of a router of the files and of a neighbour line of its process, and at its far side is an external peer or
-- one of the ends
pub record IsPlaced (files : List File) (end : SessionEnd) : Type 0 where
  pub router : end.router < length files
  pub line : IsSome (neighbour_of files end)
  pub far : FarIsWithin (length (ends_of files)) end.far
