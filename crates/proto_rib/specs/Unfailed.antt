-- Routing where no link has failed and no router runs OSPF or BGP.
use Rattle.std.specs.Prelude.{◌≡◌, ℕ, ◌/◌, ◌%◌, List, Some, None, slice_get}
use Rattle.mw_text.specs.declared.address.Addr.{Addr}
use Rattle.mw_text.specs.declared.address.Prefix.{Prefix}
use Rattle.mw_text.specs.Address.{prefix_at}
use Rattle.ios_ast.specs.declared.file.File.{File}
use Rattle.route_record.specs.declared.Slot.{Slot}
use Rattle.net_interfaces.specs.declared.interfaces.Addressed.{Addressed}
use Rattle.net_interfaces.specs.Interfaces.{addressed}
use Rattle.net_parts.specs.Routing.{candidates, least_distance, open_interfaces}
use Rattle.route_record.specs.declared.TheConstants.{LENGTHS}

-- the slot of a router for a prefix, over all interfaces with an address
abbrev pub slot_over : List Addressed → ℕ → File → Prefix → Slot
slot_over all router file p = record {
  ospf = None;
  bgp = None;
  rib = least_distance (candidates (open_interfaces all router) file.statics p);
}

-- the slot of that router for that length
abbrev pub IsSlotFor : List File → Addr → ℕ → ℕ → Slot → Type 0
IsSlotFor files destination router len slot =
    (file : File) → slice_get files router ≡ Some file →
    slot ≡ slot_over (addressed files) router file (prefix_at destination len)

-- the slot at that place of the tables
abbrev pub IsSlotAt : List File → Addr → ℕ → Slot → Type 0
IsSlotAt files destination place slot = IsSlotFor files destination (place / LENGTHS) (place % LENGTHS) slot
