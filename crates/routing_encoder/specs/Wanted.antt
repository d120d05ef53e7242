-- The OSPF routes and the bits of entries of a world by shapes, as real tables of these shapes want them.
use Rattle.std.specs.Prelude.{◌≡◌, ◌||◌, Bool, Some, false, not, List, map, option_map, slice_get}
use Rattle.std.specs.Option.{option_map_or}
use Rattle.mw_text.specs.declared.address.Addr.{Addr}
use Rattle.mw_text.specs.declared.address.Prefix.{Prefix}
use Rattle.ios_ast.specs.declared.file.File.{File}
use Rattle.route_record.specs.declared.Failures.{Failures}
use Rattle.route_record.specs.declared.Slot.{Slot}
use Rattle.route_record.specs.declared.Tables.{Tables}
use Rattle.route_record.specs.declared.tracked.Tracked.{Tracked}
use Rattle.route_record.specs.Places.{slot_at}
use Rattle.route_shapes.specs.Bgp.{bgp_shape}
use Rattle.bgp_shapes.specs.Candidates.{slot_shape}
use Rattle.plan_places.specs.declared.places.Place.{Place}
use Rattle.plan_places.specs.Tables.{all_hold}
use Rattle.slot_places.specs.Rooms.{can_be_used}
use Rattle.term_store.specs.declared.NodeId.{NodeId}
use Rattle.term_store.specs.Terms.{Reading, at}
use Rattle.sym_rib.specs.declared.slots.SymSlot.{SymSlot}
use Rattle.sym_rib.specs.declared.slots.SymTables.{SymTables}
use Rattle.sym_rib.specs.Slots.{StandsForSlot}
use Rattle.sym_rib.specs.Worlds.{slot_placed}
use Rattle.world_variables.specs.Slots.{is_wanted}
use Rattle.ospf_equations.specs.Equations.{StandFor}
use Rattle.shape_worlds.specs.Worlds.{ShapeWorld}
use Rattle.bgp_worlds.specs.Opens.{OpenSlot, is_igp_wanted}

-- the tables have the shapes of that world
abbrev pub HasShapes : Tracked → Tables → ShapeWorld → Type 0
HasShapes tracked real s = map (slot_shape tracked) real.slots ≡ s.slots

-- what is open of OSPF at a place is as the tables want it; nothing is asked where nothing can stand
abbrev pub is_wanted_place : List File → Prefix → ShapeWorld → Tables → Place → OpenSlot → Bool
is_wanted_place files destinations s tables p o =
    not (can_be_used files destinations p.router p.len)
    || option_map_or (λ file. option_map_or (is_igp_wanted files s tables p o.unknown file)
    (slot_at tables p.router p.len) false) (slice_get files p.router) false

-- so are all at some places
abbrev pub are_wanted : List File → Prefix → ShapeWorld → Tables → List Place → List OpenSlot → Bool
are_wanted files destinations s tables places opens = all_hold (is_wanted_place files destinations s tables) places opens

-- ---- one place

-- real tables have that slot at a place, a symbolic slot stands there for it, and what is open there is of its shape
pub record IsOpenAt (w : Reading) (tracked : Tracked) (tables : SymTables) (real : Tables) (p : Place) (o : OpenSlot)
    (slot : Slot) : Type 0 where
  pub sym : SymSlot
  pub there : slot_placed tables p.router p.len ≡ Some sym
  pub stands : StandsForSlot w tracked sym slot
  pub is : slot_at real p.router p.len ≡ Some slot
  pub ospf : slot.ospf ≡ o.unknown.ospf
  pub bgp : option_map (bgp_shape tracked) slot.bgp ≡ o.bgp

-- a node tells whether what is open of OSPF at a place is as the tables want it
abbrev pub TellsWanted : Reading → Tracked → List File → Failures → Addr → SymTables → Place → OpenSlot → NodeId → Type 0
TellsWanted w tracked files failures d tables p o node =
    (real : Tables) (slot : Slot) → StandFor w tracked tables real → IsOpenAt w tracked tables real p o slot →
    at w node ≡ option_map_or (is_wanted files failures d real p.router p.len o.unknown slot) (slice_get files p.router)
    false
