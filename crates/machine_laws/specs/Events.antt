-- What each event makes of a state, and the states that events lead to.
use Rattle.std.specs.Prelude.{◌≡◌, ℕ, ◌+◌, ◌*◌, ◌==◌, ◌&&◌, Bool, not, All, List, [], filter, length}
use Rattle.std.specs.Prelude.{nat_lt, replicate, slice_get, slice_set, Option, None, Ok, Err, Result}
use Rattle.std.specs.Prelude.{if◌then◌else◌}
use Rattle.std.specs.Option.{option_map_or}
use Rattle.mw_text.specs.declared.address.Addr.{Addr}
use Rattle.mw_text.specs.Address.{prefix_at}
use Rattle.mw_text.specs.Reading.{in_turn}
use Rattle.ios_ast.specs.declared.file.File.{File}
use Rattle.ios_ast.specs.Deciding.{carries}
use Rattle.route_record.specs.declared.Announcement.{Announcement}
use Rattle.route_record.specs.declared.Environment.{Environment}
use Rattle.route_record.specs.declared.Failures.{Failures}
use Rattle.route_record.specs.declared.Slot.{Slot}
use Rattle.route_record.specs.declared.Tables.{Tables}
use Rattle.route_record.specs.declared.TheConstants.{LENGTHS}
use Rattle.route_record.specs.Fits.{IsAddress}
use Rattle.route_record.specs.Places.{slot_at}
use Rattle.net_interfaces.specs.Values.{put_number}
use Rattle.net_parts.specs.Ospf.{adjacencies}
use Rattle.net_parts.specs.Sessions.{ends_of, external_ends}
use Rattle.net_parts.specs.World.{links_of, no_failures}
use Rattle.same_routes.specs.Slots.{same_bgp, same_ospf}
use Rattle.machine_laws.specs.declared.state.Channel.{Channel}
use Rattle.machine_laws.specs.declared.state.Event.{Event}
use Rattle.machine_laws.specs.declared.state.Event.TheVariants.{DeliverBgp, DeliverOspf, Decide, Announce, Cut, Mend}
use Rattle.machine_laws.specs.declared.state.EventRefused.{EventRefused}
use Rattle.machine_laws.specs.declared.state.EventRefused.TheVariants.{NothingToDeliver, UnknownName, AlreadySo}
use Rattle.machine_laws.specs.declared.state.State.{State}
use Rattle.machine_laws.specs.Announcing.{announced_with, is_about}
use Rattle.machine_laws.specs.Channels.{all_renewed, published, silent, taken}
use Rattle.machine_laws.specs.Deciding.{decided}
use Rattle.machine_laws.specs.Sending.{adjacency_up_at, arriving_at, comes_from, is_outside_at, offered_at, offers_from}
use Rattle.machine_laws.specs.Sending.{session_up_at}

-- ---- a delivery

-- the channels after a delivery over the one at that place
abbrev pub delivered_at : {M : Type 0} → List (Channel M) → ℕ → Result (List (Channel M)) EventRefused
delivered_at channels at =
    option_map_or (λ c. option_map_or (λ x. Ok (slice_set channels at x)) (taken c c.mail) (Err NothingToDeliver))
    (slice_get channels at) (Err UnknownName)

abbrev pub put_in : {M : Type 0} → (List (Channel M) → State) → Result (List (Channel M)) EventRefused
    → Result State EventRefused
put_in put (Ok channels) = Ok (put channels)
put_in put (Err why) = Err why

-- ---- a decision

abbrev pub with_slot : Tables → ℕ → ℕ → Slot → Tables
with_slot tables router len slot = record { slots = slice_set tables.slots (LENGTHS * router + len) slot }

-- the slot is written, and those of its parts that are to be sent go over all channels from the router that are up
abbrev pub told_if : List File → Addr → State → ℕ → ℕ → Bool → Bool → Slot → State
told_if files d s router len bgp ospf new =
    let tables = with_slot s.tables router len new in
    record s {
      tables = tables;
      sessions = published (λ at. bgp && comes_from files router at) (session_up_at files s.failures)
          (arriving_at files d s.environment tables) len s.sessions;
      adjacencies = published (λ at. ospf && offers_from files router at) (adjacency_up_at files s.failures)
          (offered_at files d tables) len s.adjacencies;
    }

-- the parts that changed are sent
abbrev pub told : List File → Addr → State → ℕ → ℕ → Slot → Slot → State
told files d s router len slot new =
    told_if files d s router len (not (same_bgp slot.bgp new.bgp)) (not (same_ospf slot.ospf new.ospf)) new

-- ---- an announcement

-- the environment with what is announced, and that is sent
abbrev pub announced : List File → Addr → State → ℕ → ℕ → Option Announcement → State
announced files d s end len what =
    let environment : Environment = record s.environment {
      announced = announced_with s.environment.announced end len what;
    } in
    record s {
      environment = environment;
      sessions = published (λ at. at == end) (session_up_at files s.failures) (arriving_at files d environment s.tables)
          len s.sessions;
    }

-- ---- failures

-- other failures: sessions and adjacencies follow at once
abbrev pub with_failures : List File → Addr → State → Failures → State
with_failures files d s failures = record s {
  failures = failures;
  sessions = all_renewed (session_up_at files s.failures) (session_up_at files failures)
      (arriving_at files d s.environment s.tables) s.sessions;
  adjacencies = all_renewed (adjacency_up_at files s.failures) (adjacency_up_at files failures)
      (offered_at files d s.tables) s.adjacencies;
}

-- the positions stay in ascending order
abbrev pub with_cut : ℕ → Failures → Failures
with_cut link failures = record { links = put_number failures.links link }

abbrev pub mended : ℕ → Failures → Failures
mended link failures = record { links = filter (λ l. not (l == link)) failures.links }

-- ---- all events

-- the state after an event, or why it is refused
unfoldable pub after : List File → Addr → State → Event → Result State EventRefused
after files d s (DeliverBgp end) = put_in (λ channels. record s { sessions = channels }) (delivered_at s.sessions end)
after files d s (DeliverOspf at) =
    put_in (λ channels. record s { adjacencies = channels }) (delivered_at s.adjacencies at)
after files d s (Decide router len) =
    if nat_lt len LENGTHS
    then option_map_or (λ file. option_map_or (λ slot.
    Ok (told files d s router len slot (decided files s router file (prefix_at d len) slot)))
    (slot_at s.tables router len) (Err UnknownName)) (slice_get files router) (Err UnknownName)
    else Err UnknownName
after files d s (Announce end len what) =
    if (is_outside_at files end && nat_lt len LENGTHS) && is_about files end len what
    then Ok (announced files d s end len what) else Err UnknownName
after files d s (Cut link) =
    if nat_lt link (length (links_of files))
    then (if carries s.failures.links link then Err AlreadySo
    else Ok (with_failures files d s (with_cut link s.failures)))
    else Err UnknownName
after files d s (Mend link) =
    if nat_lt link (length (links_of files))
    then (if carries s.failures.links link then Ok (with_failures files d s (mended link s.failures))
    else Err AlreadySo)
    else Err UnknownName

-- ---- the states that events lead to

abbrev pub empty_slot : Slot
empty_slot = record { ospf = None; bgp = None; rib = None }

-- empty tables, no mail, no failed link and no announcement; the external peers have these identifiers
unfoldable pub start : List File → List Addr → State
start files ids = record {
  tables = record { slots = replicate (LENGTHS * length files) empty_slot };
  sessions = replicate (length (ends_of files)) silent;
  adjacencies = replicate (length (adjacencies files)) silent;
  failures = no_failures;
  environment = record { ids = ids; announced = [] };
}

-- one identifier for each external peer
abbrev pub AreIds : List File → List Addr → Type 0
AreIds files ids = (length ids ≡ length (external_ends files)) × All IsAddress ids

-- some list of events leads from the start to the state
pub record IsReached (files : List File) (d : Addr) (s : State) : Type 0 where
  pub by : (ids : List Addr) × AreIds files ids
      × (events : List Event) × (in_turn (after files d) (start files ids) events ≡ Ok s)
