-- What goes out to an external peer, where BGP routes are known by their shapes. The routes are those that routers hold
-- for one prefix length, by router.
use Rattle.std.specs.Prelude.{ℕ, zero, suc, ◌&&◌, ◌||◌, Bool, true, false, List, Option, is_some, length, option_and_then}
use Rattle.std.specs.Prelude.{slice_get}
use Rattle.std.specs.Option.{option_map_or}
use Rattle.mw_text.specs.declared.address.Prefix.{Prefix}
use Rattle.ios_ast.specs.declared.file.File.{File}
use Rattle.route_record.specs.declared.Failures.{Failures}
use Rattle.route_record.specs.declared.tracked.Tracked.{Tracked}
use Rattle.net_parts.specs.declared.sessions.Far.{Far}
use Rattle.net_parts.specs.declared.sessions.Far.TheVariants.{Outside, Inside}
use Rattle.net_parts.specs.declared.sessions.SessionEnd.{SessionEnd}
use Rattle.net_parts.specs.Exports.{is_towards}
use Rattle.net_parts.specs.Resolution.{session_up}
use Rattle.net_parts.specs.Sessions.{ends_of}
use Rattle.route_shapes.specs.Bgp.{BgpShape}
use Rattle.bgp_shapes.specs.Crossings.{end_numbered}
use Rattle.bgp_shapes.specs.Exporting.{shape_exported}
use Rattle.export_asks.specs.declared.ask.Ask.{Ask}
use Rattle.export_asks.specs.declared.ask.AskPeer.{AskPeer}
use Rattle.export_asks.specs.Exported.{end_to, is_asked}

-- ---- where a route comes from

-- a route that came over the end: from the peer, or from a router from whose route the trace goes on
abbrev pub leads_by : List File → AskPeer → (ℕ → Bool) → SessionEnd → Far → Bool
leads_by files peer next end Outside = is_towards files peer.router peer.addr end
leads_by files peer next end (Inside at) =
    option_map_or (λ far. next far.router) (slice_get (ends_of files) at) false

abbrev pub leads_to : List File → AskPeer → (ℕ → Bool) → SessionEnd → Bool
leads_to files peer next end = leads_by files peer next end end.far

-- one step of a trace, from the route of this router
abbrev pub traced_by : List File → AskPeer → (ℕ → Bool) → ℕ → Option BgpShape → Bool
traced_by files peer next router held =
    option_map_or (λ s. option_map_or (leads_to files peer next) (end_numbered files router s.from) false) held false

-- the trace of a router's route ends at the peer within so many routers
unfoldable pub comes_from : List File → (ℕ → Option BgpShape) → AskPeer → ℕ → ℕ → Bool
comes_from files held peer zero router = false
comes_from files held peer (suc steps) router =
    traced_by files peer (comes_from files held peer steps) router (held router)

abbrev pub shape_learnt : List File → (ℕ → Option BgpShape) → ℕ → Option AskPeer → Bool
shape_learnt files held router learnt =
    option_map_or (λ peer. comes_from files held peer (length files) router) learnt true

-- ---- what goes out

abbrev pub shape_sent : Tracked → List File → (ℕ → Option BgpShape) → Prefix → SessionEnd → Bool
shape_sent tracked files held p end =
    is_some (option_and_then (shape_exported tracked files end p) (held end.router))

abbrev pub shape_goes_out : Tracked → List File → Ask → Failures → (ℕ → Option BgpShape) → Prefix → SessionEnd → Bool
shape_goes_out tracked files ask failures held p end =
    session_up files failures end
    && (shape_sent tracked files held p end && shape_learnt files held end.router ask.learnt)

-- over the session with the ask's peer a route goes out for the prefix, which is in the ask's range
unfoldable pub shape_out : Tracked → List File → Ask → Failures → (ℕ → Option BgpShape) → Prefix → Bool
shape_out tracked files ask failures held p =
    is_asked ask p
    && option_map_or (shape_goes_out tracked files ask failures held p)
    (option_and_then (slice_get (ends_of files)) (end_to files ask.to)) false

-- it is so of some number below this one
unfoldable pub any_below : ℕ → (ℕ → Bool) → Bool
any_below zero is = false
any_below (suc n) is = any_below n is || is n
