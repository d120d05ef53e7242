-- Channels by their places: which are up, what their far sides send, and from whom they come.
use Rattle.std.specs.Prelude.{ℕ, ◌==◌, Bool, false, List, Option, option_and_then, slice_get}
use Rattle.std.specs.Option.{option_map_or}
use Rattle.mw_text.specs.declared.address.Addr.{Addr}
use Rattle.mw_text.specs.Address.{prefix_at}
use Rattle.ios_ast.specs.declared.file.File.{File}
use Rattle.route_record.specs.declared.BgpMsg.{BgpMsg}
use Rattle.route_record.specs.declared.Environment.{Environment}
use Rattle.route_record.specs.declared.Failures.{Failures}
use Rattle.route_record.specs.declared.OspfRec.{OspfRec}
use Rattle.route_record.specs.declared.Tables.{Tables}
use Rattle.net_parts.specs.declared.sessions.Far.{Far}
use Rattle.net_parts.specs.declared.sessions.Far.TheVariants.{Outside, Inside}
use Rattle.net_parts.specs.Decisions.{arriving}
use Rattle.net_parts.specs.Ospf.{adjacencies, is_adjacency_up}
use Rattle.net_parts.specs.OspfRoutes.{far_record}
use Rattle.net_parts.specs.Resolution.{session_up}
use Rattle.net_parts.specs.Sessions.{ends_of, is_outside}

-- ---- sessions, by their ends

-- the session is up
unfoldable pub session_up_at : List File → Failures → ℕ → Bool
session_up_at files failures at = option_map_or (session_up files failures) (slice_get (ends_of files) at) false

-- the message that its far side sends now for a length
unfoldable pub arriving_at : List File → Addr → Environment → Tables → ℕ → ℕ → Option BgpMsg
arriving_at files d environment tables at len =
    option_and_then (arriving files environment tables (prefix_at d len) at) (slice_get (ends_of files) at)

-- at the far side is that router
abbrev pub is_at : List File → ℕ → Far → Bool
is_at files router Outside = false
is_at files router (Inside far_at) = option_map_or (λ far. far.router == router) (slice_get (ends_of files) far_at) false

unfoldable pub comes_from : List File → ℕ → ℕ → Bool
comes_from files router at = option_map_or (λ end. is_at files router end.far) (slice_get (ends_of files) at) false

-- at the far side is an external peer
unfoldable pub is_outside_at : List File → ℕ → Bool
is_outside_at files at = option_map_or (λ end. is_outside end.far) (slice_get (ends_of files) at) false

-- ---- adjacencies

unfoldable pub adjacency_up_at : List File → Failures → ℕ → Bool
adjacency_up_at files failures at =
    option_map_or (is_adjacency_up files failures) (slice_get (adjacencies files) at) false

-- the record that its far side sends now for a length: the one that it holds
unfoldable pub offered_at : List File → Addr → Tables → ℕ → ℕ → Option OspfRec
offered_at files d tables at len =
    option_and_then (far_record tables (prefix_at d len)) (slice_get (adjacencies files) at)

unfoldable pub offers_from : List File → ℕ → ℕ → Bool
offers_from files router at = option_map_or (λ a. a.to.router == router) (slice_get (adjacencies files) at) false
