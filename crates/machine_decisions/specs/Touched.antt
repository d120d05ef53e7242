-- The decisions that an event may change, and what is known of decisions without making them.
use Rattle.std.specs.Prelude.{◌≡◌, ◌≢◌, ⊤, ℕ, ◌+◌, ◌*◌, Bool, List, [], ◌∷◌, Option, Some, slice_get}
use Rattle.std.specs.Option.{option_map_or}
use Rattle.mw_text.specs.declared.address.Addr.{Addr}
use Rattle.ios_ast.specs.declared.file.File.{File}
use Rattle.route_record.specs.declared.TheConstants.{LENGTHS}
use Rattle.net_parts.specs.Ospf.{adjacencies}
use Rattle.net_parts.specs.Sessions.{ends_of}
use Rattle.machine_laws.specs.declared.state.Channel.{Channel}
use Rattle.machine_laws.specs.declared.state.Event.{Event}
use Rattle.machine_laws.specs.declared.state.Event.TheVariants.{DeliverBgp, DeliverOspf, Decide, Announce, Cut, Mend}
use Rattle.machine_laws.specs.declared.state.Mail.{Mail}
use Rattle.machine_laws.specs.declared.state.State.{State}
use Rattle.machine_laws.specs.Quiet.{is_unsettled_at}
use Rattle.machine_decisions.specs.declared.touched.Touched.{Touched}
use Rattle.machine_decisions.specs.declared.touched.Touched.TheVariants.{Nothing, Place, Everything}

-- ---- the places of the tables that an event touches

-- the router's slot for the length of the front message
abbrev pub by_front : {M : Type 0} → ℕ → List (Mail M) → Touched
by_front router [] = Nothing
by_front router (m ∷ rest) = Place (LENGTHS * router + m.len)

abbrev pub by_delivery : {M : Type 0} → List (Channel M) → ℕ → ℕ → Touched
by_delivery channels at router = option_map_or (λ c. by_front router c.mail) (slice_get channels at) Nothing

-- a delivery touches the receiver's slot for the length of the message, a decision its own slot, an announcement none,
-- and a change of the links all
unfoldable pub touched_by : List File → State → Event → Touched
touched_by files s (DeliverBgp end) =
    option_map_or (λ e. by_delivery s.sessions end e.router) (slice_get (ends_of files) end) Nothing
touched_by files s (DeliverOspf at) =
    option_map_or (λ a. by_delivery s.adjacencies at a.from.router) (slice_get (adjacencies files) at) Nothing
touched_by files s (Decide router len) = Place (LENGTHS * router + len)
touched_by files s (Announce end len what) = Nothing
touched_by files s (Cut link) = Everything
touched_by files s (Mend link) = Everything

-- the place is none of those
abbrev pub IsLeft : Touched → ℕ → Type 0
IsLeft Nothing place = ⊤
IsLeft (Place at) place = at ≢ place
IsLeft Everything place = ⊥

-- ---- what is known

-- of each place of which something is known, but those, it is so: whether a decision there would change the slot
pub record AreKnownBut (files : List File) (d : Addr) (s : State) (touched : Touched) (known : List (Option Bool))
    : Type 0 where
  pub each : (place : ℕ) (would : Bool) → IsLeft touched place → slice_get known place ≡ Some (Some would) →
      is_unsettled_at files d s place ≡ would

-- of each place of which something is known it is so
abbrev pub AreKnown : List File → Addr → State → List (Option Bool) → Type 0
AreKnown files d s known = AreKnownBut files d s Nothing known
