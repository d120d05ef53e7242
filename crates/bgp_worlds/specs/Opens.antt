-- What is open of the slots at the places of a plan, in a network with BGP: of each its OSPF route, one bit of the source
-- of its entry, and the shape of its BGP route. And the worlds that follow.
use Rattle.std.specs.Prelude.{◌≡◌, ◌<◌, ◌==◌, All, IfSome, ℕ, ◌*◌, ◌/◌, ◌%◌, ◌&&◌, ◌||◌, Bool, true, false, not, List, length, map}
use Rattle.std.specs.Prelude.{slice_get}
use Rattle.std.specs.Prelude.{Option, Some, None, option_and_then, option_map, unwrap_or, if◌then◌else◌}
use Rattle.std.specs.List.{find, range_with_len}
use Rattle.std.specs.Option.{option_map_or}
use Rattle.mw_text.specs.declared.address.Addr.{Addr}
use Rattle.mw_text.specs.declared.address.Prefix.{Prefix}
use Rattle.mw_text.specs.Address.{prefix_at}
use Rattle.ios_ast.specs.declared.file.File.{File}
use Rattle.route_record.specs.declared.Failures.{Failures}
use Rattle.route_record.specs.declared.Packet.{Packet}
use Rattle.route_record.specs.declared.Plan.{Plan}
use Rattle.route_record.specs.declared.RibEntry.{RibEntry}
use Rattle.route_record.specs.declared.Slot.{Slot}
use Rattle.route_record.specs.declared.Tables.{Tables}
use Rattle.route_record.specs.declared.TheConstants.{LENGTHS}
use Rattle.route_record.specs.declared.tracked.Tracked.{Tracked}
use Rattle.route_record.specs.Fits.{FitsOspf}
use Rattle.route_record.specs.Places.{slot_at}
use Rattle.route_shapes.specs.Bgp.{BgpShape, bgp_shape}
use Rattle.bgp_shapes.specs.Candidates.{ShapeEnvironment, ShapeSlot}
use Rattle.plan_places.specs.declared.places.Place.{Place}
use Rattle.plan_places.specs.Places.{item_at, place, places_of}
use Rattle.plan_places.specs.Plans.{has_slice}
use Rattle.plan_places.specs.Tables.{all_hold, empty_slot}
use Rattle.slot_places.specs.Rooms.{can_be_used, room_for}
use Rattle.sym_rib.specs.Sources.{entry_from}
use Rattle.world_variables.specs.declared.unknowns.Unknown.{Unknown}
use Rattle.world_variables.specs.Slots.{entry_of_bit, is_wanted, unknown_of}
use Rattle.world_variables.specs.Worlds.{FitsDistance}
use Rattle.rebuilt_routes.specs.Deciding.{is_decided_shape}
use Rattle.rebuilt_routes.specs.Words.{HasWordNumbers, HasWordValues}
use Rattle.shape_worlds.specs.Worlds.{ShapeWorld, has_all_marks, may_be_announced, rebuilt_tables, slots_for}

pub record OpenSlot : Type 0 where
  pub unknown : Unknown
  pub bgp : Option BgpShape

-- ---- slots

-- the entry of the table that follows: a BGP route counts by where it was learnt, and OSPF's only where the bit says so
abbrev pub shape_entry : List File → Failures → Addr → ℕ → ℕ → OpenSlot → Option RibEntry
shape_entry files failures d router len o =
    option_map (entry_of_bit o.unknown.dynamic) (option_and_then (λ file.
    entry_from files failures router file (prefix_at d len) (option_map (λ s. s.from) o.bgp) o.unknown.ospf
    (not o.unknown.dynamic)) (slice_get files router))

abbrev pub open_shape : List File → Failures → Addr → ℕ → ℕ → OpenSlot → ShapeSlot
open_shape files failures d router len o = record {
  ospf = o.unknown.ospf;
  bgp = o.bgp;
  rib = shape_entry files failures d router len o;
}

abbrev pub empty_shape : ShapeSlot
empty_shape = record { ospf = None; bgp = None; rib = None }

-- the slot at a place: an empty one where nothing can stand
abbrev pub shape_slot_of : List File → Prefix → Failures → Addr → Place → OpenSlot → ShapeSlot
shape_slot_of files destinations failures d p o =
    if can_be_used files destinations p.router p.len then open_shape files failures d p.router p.len o else empty_shape

-- the slot of a router at a length: nothing off the places
abbrev pub shape_slot_among : List File → Prefix → Failures → Addr → List Place → List OpenSlot → ℕ → ℕ → ShapeSlot
shape_slot_among files destinations failures d places opens router len =
    option_map_or (shape_slot_of files destinations failures d (place router len)) (item_at places opens router len)
    empty_shape

-- ---- worlds

-- the world by shapes of what is open at the places of a plan
abbrev pub shape_world_of : List File → Prefix → Plan → Packet → Failures → List OpenSlot → ShapeEnvironment →
    ShapeWorld
shape_world_of files destinations plan packet failures opens environment = record {
  packet = packet;
  failures = failures;
  slots = map (λ k. shape_slot_among files destinations failures packet.dst (places_of plan (length files)) opens
      (k / LENGTHS) (k % LENGTHS)) (range_with_len 0 (LENGTHS * length files));
  environment = environment;
}

-- external peers announce nothing off the slices of the plan
abbrev pub AnnounceAtSlices : Plan → ShapeEnvironment → Type 0
AnnounceAtSlices plan environment =
    (end len : ℕ) → len < LENGTHS → has_slice plan len ≡ false →
    find (λ a. (a.end == end) && (a.len == len)) environment.announced ≡ None

-- ---- the test

-- the shape of a BGP route has its marks, and is what the decision process leaves of shapes
abbrev pub is_bgp_wanted : Tracked → List File → ShapeWorld → Place → Option BgpShape → File → Bool
is_bgp_wanted tracked files s p held file =
    option_map_or (has_all_marks tracked) held true
    && is_decided_shape tracked files s.failures s.environment (slots_for s p.len) p.router file
    (prefix_at s.packet.dst p.len) held

-- the OSPF route is the one that the router holds, and the bit is that of its table's entry, as the tables have it
abbrev pub is_igp_wanted : List File → ShapeWorld → Tables → Place → Unknown → File → Slot → Bool
is_igp_wanted files s tables p u file slot =
    is_wanted files s.failures s.packet.dst tables p.router p.len u slot file

-- what is open of a slot is as shapes and tables want it; nothing is asked where nothing can stand
abbrev pub place_holds : Tracked → List File → Prefix → ShapeWorld → Tables → Place → OpenSlot → Bool
place_holds tracked files destinations s tables p o =
    not (can_be_used files destinations p.router p.len)
    || option_map_or (λ file. is_bgp_wanted tracked files s p o.bgp file
    && option_map_or (is_igp_wanted files s tables p o.unknown file) (slot_at tables p.router p.len) false)
    (slice_get files p.router) false

-- so are all at the places of a plan, in the tables that are made of the shapes, and the peers may announce what they do
unfoldable pub opens_hold : Tracked → List File → Prefix → Plan → ShapeWorld → List OpenSlot → Bool
opens_hold tracked files destinations plan s opens =
    may_be_announced files tracked s.environment
    && all_hold (place_holds tracked files destinations s (rebuilt_tables tracked files s))
    (places_of plan (length files)) opens

-- where a slot has no room for a route of OSPF none is open there
abbrev pub HaveRooms : List File → Prefix → List Place → List OpenSlot → Type 0
HaveRooms files destinations places opens =
    (router len : ℕ) (o : OpenSlot) → item_at places opens router len ≡ Some o →
    room_for files destinations router len ≡ None → o.unknown.ospf ≡ None

-- the numbers of what is open fit their fields, and so do the distances of static routes and the values that lines of the
-- files bring into the lists of BGP routes
pub record FitOpens (tracked : Tracked) (files : List File) (opens : List OpenSlot) : Type 0 where
  pub ospf : All (λ o. IfSome o.unknown.ospf FitsOspf) opens
  pub bgp : All (λ o. IfSome o.bgp HasWordNumbers) opens
  pub distances : (router : ℕ) (file : File) → slice_get files router ≡ Some file → All FitsDistance file.statics
  pub values : HasWordValues tracked files

-- ---- what is open of slots that are known

abbrev pub open_of : Tracked → Slot → OpenSlot
open_of tracked slot = record { unknown = unknown_of slot; bgp = option_map (bgp_shape tracked) slot.bgp }

abbrev pub open_at : Tracked → Tables → Place → OpenSlot
open_at tracked tables p = open_of tracked (unwrap_or (slot_at tables p.router p.len) empty_slot)

abbrev pub opens_of : Tracked → Tables → List Place → List OpenSlot
opens_of tracked tables places = map (open_at tracked tables) places
