-- Worlds whose BGP routes and announcements are known by their shapes, and the real ones that are made of them.
use Rattle.std.specs.Prelude.{◌≡◌, ℕ, ◌+◌, ◌*◌, ◌/◌, ◌%◌, ◌<◌, ◌^◌, ◌==◌, ◌&&◌, ◌||◌, Bool, true, false, List, length}
use Rattle.std.specs.Prelude.{map, nat_lt, slice_get, Option, Some}
use Rattle.std.specs.List.{enumerate_from, list_all}
use Rattle.std.specs.Option.{option_map_or}
use Rattle.mw_text.specs.declared.address.Addr.{Addr}
use Rattle.mw_text.specs.Address.{prefix_at}
use Rattle.ios_ast.specs.declared.file.File.{File}
use Rattle.ios_ast.specs.Limits.{each_pair}
use Rattle.route_record.specs.declared.Environment.{Environment}
use Rattle.route_record.specs.declared.Failures.{Failures}
use Rattle.route_record.specs.declared.Packet.{Packet}
use Rattle.route_record.specs.declared.Slot.{Slot}
use Rattle.route_record.specs.declared.Tables.{Tables}
use Rattle.route_record.specs.declared.TheConstants.{LENGTHS}
use Rattle.route_record.specs.declared.tracked.Tracked.{Tracked}
use Rattle.route_record.specs.declared.World.{World}
use Rattle.route_record.specs.Places.{slot_at}
use Rattle.net_parts.specs.Sessions.{external_ends}
use Rattle.net_parts.specs.Stable.{IsDecided}
use Rattle.net_parts.specs.World.{IsEnvironment}
use Rattle.route_shapes.specs.Bgp.{BgpShape}
use Rattle.bgp_shapes.specs.Candidates.{ShapeAnnouncement, ShapeEnvironment, ShapeSlot, environment_shape, slot_shape}
use Rattle.announced_shapes.specs.Announcements.{is_announcement_shape}
use Rattle.announced_shapes.specs.Environments.{rebuilt_environment}
use Rattle.rebuilt_routes.specs.Deciding.{is_decided_shape}
use Rattle.rebuilt_routes.specs.Following.{real_routes, slot_with}

-- a packet, failed links, the slots of all routers by router and then by prefix length, and what the peers announce
pub record ShapeWorld : Type 0 where
  pub packet : Packet
  pub failures : Failures
  pub slots : List ShapeSlot
  pub environment : ShapeEnvironment

-- the shapes of a world and of an environment
abbrev pub shapes_of : Tracked → World → Environment → ShapeWorld
shapes_of tracked world environment = record {
  packet = world.packet;
  failures = world.failures;
  slots = map (slot_shape tracked) world.tables.slots;
  environment = environment_shape tracked environment;
}

-- ---- what is made of shapes

-- the slots of all routers for the prefix of that length
abbrev pub slots_for : ShapeWorld → ℕ → ℕ → Option ShapeSlot
slots_for s len router = slice_get s.slots (LENGTHS * router + len)

-- what the peers announce
abbrev pub environment_of : Tracked → ShapeWorld → Environment
environment_of tracked s = rebuilt_environment tracked s.environment

-- the slot at a place, with the route that is followed back from its shape
abbrev pub real_slot : Tracked → List File → ShapeWorld → ℕ × ShapeSlot → Slot
real_slot tracked files s e =
    slot_with (real_routes tracked files (environment_of tracked s) (slots_for s (e.0 % LENGTHS))
    (prefix_at s.packet.dst (e.0 % LENGTHS)) (e.0 / LENGTHS)) e.1

unfoldable pub rebuilt_tables : Tracked → List File → ShapeWorld → Tables
rebuilt_tables tracked files s = record {
  slots = map (real_slot tracked files s) (enumerate_from 0 s.slots);
}

abbrev pub rebuilt_world : Tracked → List File → ShapeWorld → World
rebuilt_world tracked files s = record {
  packet = s.packet;
  failures = s.failures;
  tables = rebuilt_tables tracked files s;
}

-- ---- the test

-- there is a mark for each tracked value
abbrev pub has_all_marks : Tracked → BgpShape → Bool
has_all_marks tracked s =
    (length s.path.numbers == length tracked.numbers)
    && ((length s.communities == length tracked.communities) && (length s.clusters == length tracked.clusters))

-- the BGP equation of the slot at a place holds of shapes
abbrev pub is_decided_at : Tracked → List File → ShapeWorld → ℕ × ShapeSlot → Bool
is_decided_at tracked files s e =
    option_map_or (λ file. is_decided_shape tracked files s.failures s.environment (slots_for s (e.0 % LENGTHS))
    (e.0 / LENGTHS) file (prefix_at s.packet.dst (e.0 % LENGTHS)) e.1.bgp) (slice_get files (e.0 / LENGTHS)) false

abbrev pub slot_holds : Tracked → List File → ShapeWorld → ℕ × ShapeSlot → Bool
slot_holds tracked files s e =
    option_map_or (has_all_marks tracked) e.1.bgp true && is_decided_at tracked files s e

-- an announcement of an earlier end, or of the same and of a shorter prefix
abbrev pub is_earlier : ShapeAnnouncement → ShapeAnnouncement → Bool
is_earlier a b = nat_lt a.end b.end || ((a.end == b.end) && nat_lt a.len b.len)

-- the peers may announce this
abbrev pub may_be_announced : List File → Tracked → ShapeEnvironment → Bool
may_be_announced files tracked s =
    ((length s.ids == length (external_ends files)) && list_all (λ (id : Addr). nat_lt id.0 (2 ^ 32)) s.ids)
    && (list_all (is_announcement_shape files tracked) s.announced && each_pair is_earlier s.announced)

-- the peers may announce what they do, each router has a slot for each prefix, and the BGP equation of each slot holds of
-- shapes
unfoldable pub shape_holds : Tracked → List File → ShapeWorld → Bool
shape_holds tracked files s =
    may_be_announced files tracked s.environment
    && ((length s.slots == LENGTHS * length files)
    && list_all (slot_holds tracked files s) (enumerate_from 0 s.slots))

-- ---- what is true of the two worlds

-- a world and an environment have these shapes, the peers may make the environment, and the BGP part of each slot is what
-- the decision process leaves
pub record IsRealWorld (tracked : Tracked) (files : List File) (s : ShapeWorld) (world : World)
    (environment : Environment) : Type 0 where
  pub shapes : shapes_of tracked world environment ≡ s
  pub environment_may : IsEnvironment files environment
  pub size : length world.tables.slots ≡ LENGTHS * length files
  pub decided : (router len : ℕ) (file : File) (slot : Slot) → slice_get files router ≡ Some file → len < LENGTHS →
      slot_at world.tables router len ≡ Some slot →
      IsDecided files world.failures environment world.tables router file (prefix_at world.packet.dst len) slot.bgp
