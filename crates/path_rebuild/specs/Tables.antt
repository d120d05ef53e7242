-- Tables whose BGP routes are made again from their shapes.
use Rattle.std.specs.Prelude.{◌≡◌, ℕ, ◌+◌, ◌*◌, ◌/◌, ◌%◌, List, map, Option, option_and_then, option_map, slice_get}
use Rattle.std.specs.List.{enumerate_from}
use Rattle.mw_text.specs.declared.address.Addr.{Addr}
use Rattle.mw_text.specs.Address.{prefix_at}
use Rattle.ios_ast.specs.declared.file.File.{File}
use Rattle.route_record.specs.declared.BgpRec.{BgpRec}
use Rattle.route_record.specs.declared.Environment.{Environment}
use Rattle.route_record.specs.declared.Slot.{Slot}
use Rattle.route_record.specs.declared.Tables.{Tables}
use Rattle.route_record.specs.declared.TheConstants.{LENGTHS}
use Rattle.route_record.specs.declared.tracked.Tracked.{Tracked}
use Rattle.route_record.specs.Places.{slot_at}
use Rattle.bgp_shapes.specs.Candidates.{ShapeSlot}
use Rattle.rebuilt_routes.specs.Following.{real_routes}
use Rattle.shape_worlds.specs.Worlds as worlds
use Rattle.shape_worlds.specs.Worlds.{ShapeWorld}
use Rattle.path_rebuild.specs.declared.Rebuilt.{Rebuilt}
use Rattle.path_rebuild.specs.declared.ShapeRec.{ShapeRec}
use Rattle.path_rebuild.specs.Environments.{environment_of}
use Rattle.path_rebuild.specs.Shapes.{route_of}

-- the shape that a router holds for a prefix of that length: the shapes stand by router and then by length
abbrev pub known_at : List (Option ShapeRec) → ℕ → ℕ → Option ShapeRec
known_at held len router = option_and_then (λ known. known) (slice_get held (LENGTHS * router + len))

-- the slots of all routers for such a prefix: the other parts are those of the given tables
abbrev pub slots_of : Tracked → List (Option ShapeRec) → Tables → ℕ → ℕ → Option ShapeSlot
slots_of tracked held rest len router = option_map (λ slot. record {
  ospf = slot.ospf;
  bgp = option_map (route_of tracked) (known_at held len router);
  rib = slot.rib;
}) (slot_at rest router len)

-- the BGP routes of all routers for the prefix of that length
abbrev pub routes_of : Tracked → List File → Environment → List (Option ShapeRec) → Tables → Addr → ℕ → ℕ →
    Option BgpRec
routes_of tracked files environment held rest destination len =
    real_routes tracked files environment (slots_of tracked held rest len) (prefix_at destination len)

-- the slot at a place, with its route
abbrev pub rebuilt_slot : Tracked → List File → Environment → List (Option ShapeRec) → Tables → Addr → ℕ × Slot → Slot
rebuilt_slot tracked files environment held rest destination e = record {
  ospf = e.1.ospf;
  bgp = routes_of tracked files environment held rest destination (e.0 % LENGTHS) (e.0 / LENGTHS);
  rib = e.1.rib;
}

-- all slots
unfoldable pub rebuilt_tables : Tracked → List File → Environment → List (Option ShapeRec) → Tables → Addr → Tables
rebuilt_tables tracked files environment held rest destination = record {
  slots = map (rebuilt_slot tracked files environment held rest destination) (enumerate_from 0 rest.slots);
}

-- ---- as a world of shapes

-- the slots of the given tables, with the shapes of their routes
abbrev pub shape_slot : Tracked → List (Option ShapeRec) → ℕ × Slot → ShapeSlot
shape_slot tracked held e = record {
  ospf = e.1.ospf;
  bgp = option_map (route_of tracked) (option_and_then (λ known. known) (slice_get held e.0));
  rib = e.1.rib;
}

-- a world of these announcements and slots, in which packets go to that destination
pub record IsWorldOf (tracked : Tracked) (files : List File) (destination : Addr) (ids : List Addr)
    (announced held : List (Option ShapeRec)) (rest : Tables) (s : ShapeWorld) : Type 0 where
  pub destined : s.packet.dst ≡ destination
  pub environment : s.environment ≡ environment_of tracked files ids announced
  pub slots : s.slots ≡ map (shape_slot tracked held) (enumerate_from 0 rest.slots)

-- what is made of it
pub record IsMadeOf (tracked : Tracked) (files : List File) (s : ShapeWorld) (made : Rebuilt) : Type 0 where
  pub tables : made.tables ≡ worlds.rebuilt_tables tracked files s
  pub environment : made.env ≡ worlds.environment_of tracked s
