-- Where tables are not a stable routing.
use Rattle.std.specs.Prelude.{◌≡◌, ℕ, ◌<◌, ◌/◌, ◌%◌, ◌⊎◌, List, MatchOption, Option, Some, slice_get}
use Rattle.mw_text.specs.declared.address.Addr.{Addr}
use Rattle.mw_text.specs.declared.address.Prefix.{Prefix}
use Rattle.mw_text.specs.Address.{prefix_at}
use Rattle.ios_ast.specs.declared.file.File.{File}
use Rattle.route_record.specs.declared.Environment.{Environment}
use Rattle.route_record.specs.declared.Failures.{Failures}
use Rattle.route_record.specs.declared.Slot.{Slot}
use Rattle.route_record.specs.declared.Tables.{Tables}
use Rattle.route_record.specs.declared.TheConstants.{LENGTHS}
use Rattle.route_record.specs.Places.{slot_at}
use Rattle.net_parts.specs.Entries.{table_entry}
use Rattle.net_parts.specs.Stable.{held_ospf, IsDecided, IsStableSlot}
use Rattle.stable_replay.specs.declared.differs.Differs.{Differs}
use Rattle.stable_replay.specs.declared.differs.Part.{Part}
use Rattle.stable_replay.specs.declared.differs.Part.TheVariants.{Ospf, Bgp, Rib}
use Rattle.stable_replay.specs.Parts.{bgp_slot, bgp_wanted, ospf_slot, ospf_slots, rib_slot, rib_slots}

-- an equation does not hold: with what the slot holds of the part, and what the equation wants
pub record IsUnlike (Holds : Type 0) (own : Slot) (others : List Slot) (differs : Differs) : Type 0 where
  pub refuted : Holds → ⊥
  pub held : differs.held ≡ own
  pub wanted : differs.wanted ≡ others

-- the part is the first of ospf, bgp and rib of which the equation does not hold
abbrev pub IsFirstUnlike : List File → Failures → Environment → Tables → ℕ → File → Prefix → Slot → Differs → Type 0
IsFirstUnlike files failures environment tables router file p slot differs = by_part differs.part where
  by_part : Part → Type 0
  by_part Ospf =
      IsUnlike (slot.ospf ≡ held_ospf files failures tables router file p)
      (ospf_slot slot.ospf) (ospf_slots (held_ospf files failures tables router file p)) differs
  by_part Bgp =
      (slot.ospf ≡ held_ospf files failures tables router file p)
      × IsUnlike (IsDecided files failures environment tables router file p slot.bgp)
      (bgp_slot slot.bgp) (bgp_wanted files failures environment tables router file p) differs
  by_part Rib =
      (slot.ospf ≡ held_ospf files failures tables router file p)
      × IsDecided files failures environment tables router file p slot.bgp
      × IsUnlike (slot.rib ≡ table_entry files failures router file p slot)
      (rib_slot slot.rib) (rib_slots (table_entry files failures router file p slot)) differs

-- what the test of a slot answers: nothing where it is stable, else the first difference there
abbrev pub IsSlotTested : List File → Failures → Environment → Tables → ℕ → File → Prefix → Slot → Option Differs
    → Type 0
IsSlotTested files failures environment tables router file p slot found =
    MatchOption found (IsStableSlot files failures environment tables router file p slot) (λ differs.
    (differs.router ≡ router) × (differs.len ≡ p.len)
    × IsFirstUnlike files failures environment tables router file p slot differs)

-- the slot at a place of the tables is stable
abbrev pub IsStableAt : List File → Addr → Failures → Environment → Tables → ℕ → Type 0
IsStableAt files destination failures environment tables place =
    (file : File) (slot : Slot) → slice_get files (place / LENGTHS) ≡ Some file → slice_get tables.slots place
    ≡ Some slot →
    IsStableSlot files failures environment tables (place / LENGTHS) file (prefix_at destination (place % LENGTHS)) slot

-- the slot at a place differs
pub record IsDifferenceAt (files : List File) (destination : Addr) (failures : Failures) (environment : Environment)
    (tables : Tables) (place : ℕ) (differs : Differs) : Type 0 where
  pub router : differs.router ≡ place / LENGTHS
  pub len : differs.len ≡ place % LENGTHS
  pub unlike : (file : File) × (slot : Slot) × (slice_get files (place / LENGTHS) ≡ Some file)
      × (slice_get tables.slots place ≡ Some slot)
      × IsFirstUnlike files failures environment tables (place / LENGTHS) file
      (prefix_at destination (place % LENGTHS)) slot differs

-- a slot of an earlier router, or of the same router and a shorter prefix
abbrev pub IsEarlier : ℕ → ℕ → Differs → Type 0
IsEarlier router len differs = (router < differs.router) ⊎ ((router ≡ differs.router) × (len < differs.len))

-- The first place where tables are not a stable routing, by router, then by length, then by part: the slot there has
-- that difference, and all slots before it are stable
pub record IsFirstDifference (files : List File) (destination : Addr) (failures : Failures) (environment : Environment)
    (tables : Tables) (differs : Differs) : Type 0 where
  pub len : differs.len < LENGTHS
  pub unlike : (file : File) × (slot : Slot) × (slice_get files differs.router ≡ Some file)
      × (slot_at tables differs.router differs.len ≡ Some slot)
      × IsFirstUnlike files failures environment tables differs.router file
      (prefix_at destination differs.len) slot differs
  pub before : (router len : ℕ) (file : File) (slot : Slot) → slice_get files router ≡ Some file → len < LENGTHS →
      slot_at tables router len ≡ Some slot → IsEarlier router len differs →
      IsStableSlot files failures environment tables router file (prefix_at destination len) slot
