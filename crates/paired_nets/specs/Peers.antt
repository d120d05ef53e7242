-- External peers of two networks, by the names of their routers and their addresses.
use Rattle.std.specs.Prelude.{◌≡◌, ℕ, ◌==◌, ◌&&◌, Bool, List, [], Option, Some, option_and_then, option_map, slice_get}
use Rattle.std.specs.Option.{option_map_or}
use Rattle.mw_text.specs.Text.{same_text}
use Rattle.ios_ast.specs.declared.file.File.{File}
use Rattle.net_parts.specs.declared.sessions.Peering.{Peering}
use Rattle.net_parts.specs.declared.sessions.SessionEnd.{SessionEnd}
use Rattle.net_parts.specs.Sessions.{neighbour_of}

-- the name of a router
abbrev pub hostname_at : List File → ℕ → List ℕ
hostname_at files router = option_map_or (λ file. file.hostname) (slice_get files router) []

-- two neighbour lines are of one peer: their routers have one name, and the neighbours one address
abbrev pub is_one_peer : List File → List File → Peering → Peering → Bool
is_one_peer left right one other =
    same_text (hostname_at left one.router) (hostname_at right other.router)
    && (one.neighbour.0 == other.neighbour.0)

-- the name of the router at the end of a session, and the address of its neighbour
abbrev pub peer_of : List File → SessionEnd → Option (List ℕ × ℕ)
peer_of files end =
    option_and_then (λ file. option_map (λ neighbour. (file.hostname, neighbour.addr.0)) (neighbour_of files end))
    (slice_get files end.router)

-- two ends of sessions are with one peer
abbrev pub AreWithOne : List File → List File → SessionEnd → SessionEnd → Type 0
AreWithOne left right one other =
    (peer : List ℕ × ℕ) × (peer_of left one ≡ Some peer) × (peer_of right other ≡ Some peer)
