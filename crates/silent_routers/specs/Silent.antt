-- Routers that send nothing of what they hold: a route of an internal peer goes to no internal peer but by a reflector
-- (RFC 4271, section 9.2; RFC 4456, section 5).
use Rattle.std.specs.Prelude.{◌≡◌, ◌⊎◌, ◌==◌, ◌&&◌, ℕ, Bool, false, true, not, List, length, Option, Some, None}
use Rattle.std.specs.Prelude.{option_map, slice_get, if◌then◌else◌}
use Rattle.std.specs.List.{list_all}
use Rattle.std.specs.Option.{option_map_or}
use Rattle.mw_text.specs.declared.address.Prefix.{Prefix}
use Rattle.ios_ast.specs.declared.bgp.Bgp.{Bgp}
use Rattle.ios_ast.specs.declared.bgp.Neighbour.{Neighbour}
use Rattle.ios_ast.specs.declared.file.File.{File}
use Rattle.route_record.specs.declared.Failures.{Failures}
use Rattle.route_record.specs.declared.tracked.Tracked.{Tracked}
use Rattle.net_parts.specs.declared.sessions.Far.{Far}
use Rattle.net_parts.specs.declared.sessions.Far.TheVariants.{Outside, Inside}
use Rattle.net_parts.specs.declared.sessions.SessionEnd.{SessionEnd}
use Rattle.net_parts.specs.Sessions.{ends_of}
use Rattle.bgp_shapes.specs.Candidates.{ShapeEnvironment, ShapeSlot}
use Rattle.rebuilt_routes.specs.Deciding.{is_decided_shape}

-- an internal peer that is no client of the process
abbrev pub is_plain_peer : Bgp → Neighbour → Bool
is_plain_peer process neighbour = (process.asn == neighbour.asn) && not neighbour.client

-- a process all of whose neighbours are such, and which originates nothing
abbrev pub is_silent_process : Bgp → Bool
is_silent_process process =
    list_all (is_plain_peer process) process.neighbours
    && ((length process.networks == 0) && (length process.redistribute == 0))

-- a router that runs such a process
abbrev pub is_silent : List File → ℕ → Bool
is_silent files router =
    option_map_or (λ file. option_map_or is_silent_process file.bgp false) (slice_get files router) false

-- what lies at the far side of a session is one
abbrev pub is_behind_silent : List File → SessionEnd → Bool
is_behind_silent files end = by_far end.far where
  by_far : Far → Bool
  by_far Outside = false
  by_far (Inside at) = option_map_or (λ far. is_silent files far.router) (slice_get (ends_of files) at) false

-- a slot without its BGP route
abbrev pub without_bgp : ShapeSlot → ShapeSlot
without_bgp slot = record { ospf = slot.ospf; bgp = None; rib = slot.rib }

-- the slots of all routers, where silent ones hold no BGP route
abbrev pub sending : List File → (ℕ → Option ShapeSlot) → ℕ → Option ShapeSlot
sending files slots router = if is_silent files router then option_map without_bgp (slots router) else slots router

-- the router holds no BGP route in its slot, or what the decision process leaves where the others have such slots
abbrev pub IsSettled : Tracked → List File → Failures → ShapeEnvironment → Prefix → (ℕ → Option ShapeSlot) →
    (ℕ → Option ShapeSlot) → ℕ → Type 0
IsSettled tracked files failures environment p others slots router =
    (file : File) (slot : ShapeSlot) → slice_get files router ≡ Some file → slots router ≡ Some slot →
    (slot.bgp ≡ None)
    ⊎ (is_decided_shape tracked files failures environment others router file p slot.bgp ≡ true)
