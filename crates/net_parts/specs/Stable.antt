-- The stable routings of a network for one destination.
use Rattle.std.specs.Prelude.{◌≡◌, ℕ, ◌*◌, ◌<◌, All, List, length, Option, Some, None, MatchOption, option_and_then}
use Rattle.std.specs.Prelude.{slice_get}
use Rattle.mw_text.specs.declared.address.Addr.{Addr}
use Rattle.mw_text.specs.declared.address.Prefix.{Prefix}
use Rattle.mw_text.specs.Address.{prefix_at}
use Rattle.ios_ast.specs.declared.file.File.{File}
use Rattle.route_record.specs.declared.BgpRec.{BgpRec}
use Rattle.route_record.specs.declared.Environment.{Environment}
use Rattle.route_record.specs.declared.Failures.{Failures}
use Rattle.route_record.specs.declared.OspfRec.{OspfRec}
use Rattle.route_record.specs.declared.Slot.{Slot}
use Rattle.route_record.specs.declared.Tables.{Tables}
use Rattle.route_record.specs.declared.TheConstants.{LENGTHS}
use Rattle.route_record.specs.Fits.{FitsSlot}
use Rattle.route_record.specs.Places.{slot_at}
use Rattle.net_parts.specs.Decisions.{DecidedByBgp}
use Rattle.net_parts.specs.Entries.{table_entry}
use Rattle.net_parts.specs.OspfRoutes.{held_by_ospf}

-- the OSPF record that the router holds: none where it runs no OSPF
abbrev pub held_ospf : List File → Failures → Tables → ℕ → File → Prefix → Option OspfRec
held_ospf files failures tables router file p =
    option_and_then (λ process. held_by_ospf files failures tables router file process p) file.ospf

-- the BGP record is what the decision process leaves: none where the router runs no BGP
abbrev pub IsDecided : List File → Failures → Environment → Tables → ℕ → File → Prefix → Option BgpRec → Type 0
IsDecided files failures environment tables router file p held =
    MatchOption file.bgp (held ≡ None)
    (λ process. DecidedByBgp files failures environment tables router file process p held)

-- the three equations of a slot: its OSPF part, its BGP part and its table entry, each computed from the tables
pub record IsStableSlot (files : List File) (failures : Failures) (environment : Environment) (tables : Tables)
    (router : ℕ) (file : File) (p : Prefix) (slot : Slot) : Type 0 where
  pub ospf : slot.ospf ≡ held_ospf files failures tables router file p
  pub bgp : IsDecided files failures environment tables router file p slot.bgp
  pub rib : slot.rib ≡ table_entry files failures router file p slot

-- the tables are a stable routing: each router has a slot for each prefix of the destination, whose numbers fit their
-- fields, and whose equations hold
pub record Stable (files : List File) (destination : Addr) (failures : Failures) (environment : Environment)
    (tables : Tables) : Type 0 where
  pub size : length tables.slots ≡ LENGTHS * length files
  pub fits : All FitsSlot tables.slots
  pub equations : (router len : ℕ) (file : File) (slot : Slot) →
      slice_get files router ≡ Some file → len < LENGTHS → slot_at tables router len ≡ Some slot →
      IsStableSlot files failures environment tables router file (prefix_at destination len) slot
