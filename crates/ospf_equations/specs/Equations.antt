-- The routes of which a router takes the best one, by one interface and one adjacency after another.
use Rattle.std.specs.Prelude.{◌≡◌, ℕ, ◌==◌, ◌&&◌, All, Bool, List, Option, Some, None, filter, map, if◌then◌else◌}
use Rattle.std.specs.List.{filter_map}
use Rattle.mw_text.specs.declared.address.Prefix.{Prefix}
use Rattle.mw_text.specs.Address.{same_prefix}
use Rattle.ios_ast.specs.declared.file.File.{File}
use Rattle.route_record.specs.declared.Failures.{Failures}
use Rattle.route_record.specs.declared.OspfRec.{OspfRec}
use Rattle.route_record.specs.declared.tracked.Tracked.{Tracked}
use Rattle.route_record.specs.declared.Slot.{Slot}
use Rattle.route_record.specs.declared.Tables.{Tables}
use Rattle.route_record.specs.Places.{slot_at}
use Rattle.net_parts.specs.declared.adjacencies.Adjacency.{Adjacency}
use Rattle.net_parts.specs.declared.ospf.OspfInterface.{OspfInterface}
use Rattle.net_parts.specs.Ospf.{advertisement, receives}
use Rattle.net_parts.specs.OspfRoutes.{offer_over}
use Rattle.net_parts.specs.World.{is_up}
use Rattle.term_store.specs.Terms.{Reading}
use Rattle.term_arith.specs.declared.Bits.{Bits}
use Rattle.sym_policy.specs.declared.records.SymNet.{SymNet}
use Rattle.sym_policy.specs.Held.{bgp_of, failures_of, internal_route, ospf_of}
use Rattle.sym_policy.specs.Records.{address_of}
use Rattle.sym_rib.specs.declared.slots.SymSlot.{SymSlot}
use Rattle.sym_rib.specs.declared.slots.SymTables.{SymTables}
use Rattle.sym_policy.specs.MapRecs.{HasTracked}
use Rattle.sym_rib.specs.Worlds.{StandForTables, slot_of as slot_read, slot_placed}
use Rattle.world_variables.specs.declared.opens.SymOpen.{SymOpen}
use Rattle.world_variables.specs.Slots.{open_slot}
use Rattle.world_variables.specs.Symbols.{open_of}

-- the router originates the prefix by that interface
abbrev pub originates : List File → Failures → ℕ → Prefix → OspfInterface → Bool
originates files failures router p x =
    (x.at.id.router == router) && (same_prefix (advertisement x) p && is_up files failures x.at)

-- the route, if it does
abbrev pub origin_by : List File → Failures → ℕ → Prefix → OspfInterface → Option OspfRec
origin_by files failures router p x =
    if originates files failures router p x then Some (internal_route x.cost) else None

-- the routes by some interfaces
unfoldable pub origins_by : List File → Failures → ℕ → Prefix → List OspfInterface → List OspfRec
origins_by files failures router p xs =
    map (λ x. internal_route x.cost) (filter (originates files failures router p) xs)

-- what is offered over an adjacency, if the router receives over it
abbrev pub offered_by : List File → Failures → Tables → ℕ → Prefix → Adjacency → Option OspfRec
offered_by files failures tables router p a =
    if receives files failures router a then offer_over tables p a else None

-- what is offered over some adjacencies
unfoldable pub offers_by : List File → Failures → Tables → ℕ → Prefix → List Adjacency → List OspfRec
offers_by files failures tables router p links =
    filter_map (offer_over tables p) (filter (receives files failures router) links)

-- each slot has one node for each tracked number, community and cluster
abbrev pub HaveTracked : Tracked → List SymSlot → Type 0
HaveTracked tracked slots = All (λ s. HasTracked tracked s.bgp) slots

-- the symbolic slots stand for those of real tables
abbrev pub StandFor : Reading → Tracked → SymTables → Tables → Type 0
StandFor w tracked tables real = StandForTables w tracked tables.lens.now tables.routers tables.slots.now real

-- that is the router's slot at a length in real tables; a symbolic slot stands there, and the part has its OSPF route
pub record IsOpenIn (w : Reading) (tables : SymTables) (real : Tables) (router len : ℕ) (part : SymOpen)
    (slot : Slot) : Type 0 where
  pub sym : SymSlot
  pub there : slot_placed tables router len ≡ Some sym
  pub is : slot_at real router len ≡ Some slot
  pub ospf : ospf_of w part.ospf ≡ slot.ospf

-- ---- without BGP

-- no slot has a BGP route under the reading
abbrev pub AreBare : Reading → List SymSlot → Type 0
AreBare w slots = All (λ s. bgp_of w s.bgp ≡ None) slots

-- a symbolic slot stands at that router and length, and reads as the one that follows from what is open of it
pub record IsOpenSlot (w : Reading) (files : List File) (sym : SymNet) (dst : Bits) (tables : SymTables) (router len : ℕ)
    (part : SymOpen) : Type 0 where
  pub slot : SymSlot
  pub there : slot_placed tables router len ≡ Some slot
  pub is : slot_read w slot ≡ open_slot files (failures_of w sym) (address_of w dst) router len (open_of w part)
