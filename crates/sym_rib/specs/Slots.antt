-- What a reading makes of symbolic entries of routing tables and of symbolic slots.
use Rattle.std.specs.Prelude.{◌≡◌, ℕ, ◌+◌, ◌≤◌, ◌==◌, max, if◌then◌else◌, Option, Some, None}
use Rattle.term_store.specs.Terms.{Reading, at}
use Rattle.term_arith.specs.Bits.{number, ids_end}
use Rattle.route_record.specs.declared.RibEntry.{RibEntry}
use Rattle.route_record.specs.declared.RibSource.{RibSource}
use Rattle.route_record.specs.declared.RibSource.TheVariants.{Connected, Static, Ebgp, Ospf, Ibgp}
use Rattle.route_record.specs.declared.Slot.{Slot}
use Rattle.route_record.specs.declared.tracked.Tracked.{Tracked}
use Rattle.sym_policy.specs.Held.{ospf_of, ospf_end, bgp_end, StandsForBgp}
use Rattle.sym_policy.specs.declared.records.SymBgp.{SymBgp}
use Rattle.sym_rib.specs.declared.slots.SymRib.{SymRib}
use Rattle.sym_rib.specs.declared.slots.SymSlot.{SymSlot}

-- the source of a number, and the number of a source
abbrev pub source_of_number : ℕ → RibSource
source_of_number n =
    if n == 0 then Connected
    else (if n == 1 then Static else (if n == 2 then Ebgp else (if n == 3 then Ospf else Ibgp)))

abbrev pub number_of_source : RibSource → ℕ
number_of_source Connected = 0
number_of_source Static = 1
number_of_source Ebgp = 2
number_of_source Ospf = 3
number_of_source Ibgp = 4

-- the entry, as if it were there
abbrev pub rib_at : Reading → SymRib → RibEntry
rib_at w s = record {
  source = source_of_number (number w s.source.nodes.items);
  distance = number w s.distance.nodes.items;
}

-- the entry, where it is there
abbrev pub rib_of : Reading → SymRib → Option RibEntry
rib_of w s = if at w s.valid then Some (rib_at w s) else None

-- the least size of a store that has all nodes of the entry
abbrev pub rib_end : SymRib → ℕ
rib_end s = max (s.valid.0 + 1) (max (ids_end s.source.nodes.items) (ids_end s.distance.nodes.items))

-- and all nodes of the slot
abbrev pub slot_end : SymSlot → ℕ
slot_end s = max (ospf_end s.ospf) (max (bgp_end s.bgp) (rib_end s.rib))

-- the number that tells where the BGP route was learnt, where the route is there
abbrev pub learnt_of : Reading → SymBgp → Option ℕ
learnt_of w s = if at w s.valid then Some (number w s.from.nodes.items) else None

-- the number of the entry's source is one that stands for a source
abbrev pub IsNumbered : Reading → SymRib → Type 0
IsNumbered w s = number w s.source.nodes.items ≤ 4

-- under the reading the symbolic slot has the OSPF route and the entry of that slot, whatever its BGP route
pub record StandsBesideBgp (w : Reading) (s : SymSlot) (slot : Slot) : Type 0 where
  pub ospf : ospf_of w s.ospf ≡ slot.ospf
  pub rib : rib_of w s.rib ≡ slot.rib

-- under the reading the symbolic slot stands for that slot
pub record StandsForSlot (w : Reading) (tracked : Tracked) (s : SymSlot) (slot : Slot) : Type 0 where
  pub ospf : ospf_of w s.ospf ≡ slot.ospf
  pub bgp : StandsForBgp w tracked s.bgp slot.bgp
  pub rib : rib_of w s.rib ≡ slot.rib
