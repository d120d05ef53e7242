-- Quiet states, and the event that comes next by itself.
use Rattle.std.specs.Prelude.{◌≡◌, ℕ, ◌<◌, ◌==◌, ◌/◌, ◌%◌, Bool, false, not, All, List, [], length}
use Rattle.std.specs.Prelude.{position, slice_get, Option, Some, option_map}
use Rattle.std.specs.List.{range_with_len}
use Rattle.std.specs.Option.{option_map_or, option_or}
use Rattle.mw_text.specs.declared.address.Addr.{Addr}
use Rattle.mw_text.specs.Address.{prefix_at}
use Rattle.ios_ast.specs.declared.file.File.{File}
use Rattle.route_record.specs.declared.Slot.{Slot}
use Rattle.route_record.specs.declared.TheConstants.{LENGTHS}
use Rattle.route_record.specs.Places.{slot_at}
use Rattle.same_routes.specs.Slots.{same_slot}
use Rattle.machine_laws.specs.declared.state.Channel.{Channel}
use Rattle.machine_laws.specs.declared.state.Event.{Event}
use Rattle.machine_laws.specs.declared.state.Event.TheVariants.{DeliverBgp, DeliverOspf, Decide}
use Rattle.machine_laws.specs.declared.state.State.{State}
use Rattle.machine_laws.specs.Deciding.{decided}

-- there is no mail, and no decision would change a slot
pub record IsQuiet (files : List File) (d : Addr) (s : State) : Type 0 where
  pub no_mail : All (λ c. c.mail ≡ []) s.sessions × All (λ c. c.mail ≡ []) s.adjacencies
  pub settled : (router len : ℕ) (file : File) (slot : Slot) → slice_get files router ≡ Some file → len < LENGTHS →
      slot_at s.tables router len ≡ Some slot → decided files s router file (prefix_at d len) slot ≡ slot

abbrev pub has_mail : {M : Type 0} → Channel M → Bool
has_mail c = not (length c.mail == 0)

-- a decision of the router for the length would change its slot
unfoldable pub is_unsettled : List File → Addr → State → ℕ → ℕ → Bool
is_unsettled files d s router len =
    option_map_or (λ file. option_map_or (λ slot. not (same_slot (decided files s router file (prefix_at d len) slot) slot))
    (slot_at s.tables router len) false) (slice_get files router) false

-- the same at a place of the tables
abbrev pub is_unsettled_at : List File → Addr → State → ℕ → Bool
is_unsettled_at files d s place = is_unsettled files d s (place / LENGTHS) (place % LENGTHS)

abbrev pub decide_at : ℕ → Event
decide_at place = Decide (place / LENGTHS) (place % LENGTHS)

-- the delivery over the first channel with mail, sessions before adjacencies; else the first decision, by router and
-- then by length, that would change a slot
unfoldable pub next_event : List File → Addr → State → Option Event
next_event files d s =
    option_or (option_map DeliverBgp (position has_mail s.sessions))
    (option_or (option_map DeliverOspf (position has_mail s.adjacencies))
    (option_map decide_at (position (is_unsettled_at files d s) (range_with_len 0 (length s.tables.slots)))))
