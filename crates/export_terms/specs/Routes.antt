-- What a reading makes of the BGP routes of symbolic tables, and of nodes by place.
use Rattle.std.specs.Prelude.{ℕ, Bool, false, All, List, Option, option_and_then, slice_get}
use Rattle.std.specs.Option.{option_map_or}
use Rattle.route_record.specs.declared.tracked.Tracked.{Tracked}
use Rattle.route_shapes.specs.Bgp.{BgpShape}
use Rattle.term_store.specs.declared.NodeId.{NodeId}
use Rattle.term_store.specs.Terms.{Reading, at}
use Rattle.sym_policy.specs.Held.{bgp_of}
use Rattle.sym_rib.specs.declared.slots.SymSlot.{SymSlot}
use Rattle.sym_rib.specs.declared.slots.SymTables.{SymTables}
use Rattle.sym_policy.specs.MapRecs.{HasTracked}
use Rattle.sym_rib.specs.Worlds.{sym_slot_at}

-- the routes of all routers at one length, by their shapes, where each of so many routers has a slot at each of these
-- lengths
abbrev pub routes_at : Reading → List ℕ → ℕ → List SymSlot → ℕ → ℕ → Option BgpShape
routes_at w lens routers slots len router = option_and_then (λ s. bgp_of w s.bgp) (sym_slot_at lens routers slots router len)

abbrev pub routes_read : Reading → SymTables → ℕ → ℕ → Option BgpShape
routes_read w tables = routes_at w tables.lens.now tables.routers tables.slots.now

-- the routes have one node for each tracked value
abbrev pub HaveTracked : Tracked → List SymSlot → Type 0
HaveTracked tracked slots = All (λ s. HasTracked tracked s.bgp) slots

-- the value of the node at a place; false where there is none
abbrev pub node_in : Reading → List NodeId → ℕ → Bool
node_in w nodes place = option_map_or (at w) (slice_get nodes place) false
