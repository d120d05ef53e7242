-- Routes that a routing exports to an external peer, and where they come from.
use Rattle.std.specs.Prelude.{◌≡◌, ◌<◌, ℕ, zero, suc, ◌==◌, ◌&&◌, Bool, true, false, nat_le, List, Option, Some, None, is_some, length}
use Rattle.std.specs.Prelude.{option_and_then, position, slice_get}
use Rattle.std.specs.Option.{option_map_or}
use Rattle.mw_text.specs.declared.address.Addr.{Addr}
use Rattle.mw_text.specs.declared.address.Prefix.{Prefix}
use Rattle.mw_text.specs.Address.{covers, prefix_at}
use Rattle.ios_ast.specs.declared.file.File.{File}
use Rattle.route_record.specs.declared.BgpMsg.{BgpMsg}
use Rattle.route_record.specs.declared.BgpRec.{BgpRec}
use Rattle.route_record.specs.declared.Failures.{Failures}
use Rattle.route_record.specs.declared.Learnt.{Learnt}
use Rattle.route_record.specs.declared.Learnt.TheVariants.{Local, Peer}
use Rattle.route_record.specs.declared.Tables.{Tables}
use Rattle.route_record.specs.declared.TheConstants.{LENGTHS}
use Rattle.route_record.specs.Places.{slot_at}
use Rattle.net_parts.specs.declared.sessions.Far.{Far}
use Rattle.net_parts.specs.declared.sessions.Far.TheVariants.{Outside, Inside}
use Rattle.net_parts.specs.declared.sessions.SessionEnd.{SessionEnd}
use Rattle.net_parts.specs.Exports.{end_towards, exported, is_towards}
use Rattle.net_parts.specs.Resolution.{session_up}
use Rattle.net_parts.specs.Sessions.{ends_of, is_outside}
use Rattle.export_asks.specs.declared.ask.Ask.{Ask}
use Rattle.export_asks.specs.declared.ask.AskPeer.{AskPeer}

-- the BGP route that a router holds for a prefix length
abbrev pub held_at : Tables → ℕ → ℕ → Option BgpRec
held_at tables router len = option_and_then (λ slot. slot.bgp) (slot_at tables router len)

-- ---- where a route comes from

-- the end of the session is reached from this router: an external peer there, or the route of the router at the far side
abbrev pub beyond : List File → (ℕ → Option AskPeer) → ℕ → Addr → Far → Option AskPeer
beyond files next router a Outside = Some (record { router = router; addr = a })
beyond files next router a (Inside at) = option_and_then (λ far. next far.router) (slice_get (ends_of files) at)

-- a local route comes from no peer; another over the session with the neighbour of that address
abbrev pub source_of : List File → (ℕ → Option AskPeer) → ℕ → Learnt → Option AskPeer
source_of files next router Local = None
source_of files next router (Peer a) =
    option_and_then (λ end. beyond files next router a end.far) (end_towards files router a)

-- The external peer at which the trace of a router's route for a length ends, within so many routers: the route was
-- learnt from that peer, or from a router whose route for this length has this trace. A trace in more steps than there
-- are routers comes round, and ends nowhere.
unfoldable pub traced : List File → Tables → ℕ → ℕ → ℕ → Option AskPeer
traced files tables len zero router = None
traced files tables len (suc steps) router =
    option_and_then (λ held. source_of files (traced files tables len steps) router held.from)
    (held_at tables router len)

abbrev pub trace : List File → Tables → ℕ → ℕ → Option AskPeer
trace files tables len router = traced files tables len (length files) router

-- the same external peer
abbrev pub same_peer : AskPeer → AskPeer → Bool
same_peer a b = (a.router == b.router) && (a.addr.0 == b.addr.0)

-- the route of the router comes from the peer; from any, or from none, where none is named
abbrev pub is_learnt : List File → Tables → ℕ → ℕ → Option AskPeer → Bool
is_learnt files tables len router learnt =
    option_map_or (λ peer. option_map_or (same_peer peer) (trace files tables len router) false) learnt true

-- ---- what goes out

-- the end of a session of the router with the external peer of that address
abbrev pub is_end_to : List File → AskPeer → SessionEnd → Bool
is_end_to files peer end = is_outside end.far && is_towards files peer.router peer.addr end

-- its place among the ends
abbrev pub end_to : List File → AskPeer → Option ℕ
end_to files peer = position (is_end_to files peer) (ends_of files)

-- the prefix is of the range: inside the ask's one, and of one of its lengths
abbrev pub is_asked : Ask → Prefix → Bool
is_asked ask p =
    (nat_le ask.prefix.len p.len && covers ask.prefix p.addr) && (nat_le ask.low p.len && nat_le p.len ask.high)

-- what the router at an end sends over it of the route that it holds for the prefix
abbrev pub message_over : List File → Tables → SessionEnd → Prefix → Option BgpMsg
message_over files tables end p = option_and_then (exported files end p) (held_at tables end.router p.len)

-- the session of the end is up, a route for the prefix goes out over it, and it comes from the ask's peer
abbrev pub goes_out : List File → Ask → Failures → Tables → Prefix → SessionEnd → Bool
goes_out files ask failures tables p end =
    session_up files failures end && (is_some (message_over files tables end p)
    && is_learnt files tables p.len end.router ask.learnt)

-- Over the session with the ask's peer a route goes out for the prefix of the destination of that length, which is in the
-- ask's range.
unfoldable pub is_exported : List File → Ask → Addr → Failures → Tables → ℕ → Bool
is_exported files ask d failures tables len =
    is_asked ask (prefix_at d len)
    && option_map_or (goes_out files ask failures tables (prefix_at d len))
    (option_and_then (slice_get (ends_of files)) (end_to files ask.to)) false

-- the least of the lengths 0 to 32 for which it is so, or none
abbrev pub IsLeast : (ℕ → Bool) → Option ℕ → Type 0
IsLeast is (Some len) = (len < LENGTHS) × (is len ≡ true) × ((shorter : ℕ) → shorter < len → is shorter ≡ false)
IsLeast is None = (len : ℕ) → len < LENGTHS → is len ≡ false
