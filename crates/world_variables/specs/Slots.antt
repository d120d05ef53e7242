-- What is open of a slot beside BGP: its OSPF route, and one bit of the source of its table's entry; and the test that
-- these are as some tables want them.
use Rattle.std.specs.Prelude.{ℕ, ◌&&◌, ◌||◌, Bool, true, false, not, List, slice_get, if◌then◌else◌}
use Rattle.std.specs.Prelude.{Option, Some, None, option_and_then, option_map, unwrap_or}
use Rattle.std.specs.Bool.{beq}
use Rattle.std.specs.Option.{option_map_or}
use Rattle.mw_text.specs.declared.address.Addr.{Addr}
use Rattle.mw_text.specs.Address.{prefix_at}
use Rattle.ios_ast.specs.declared.file.File.{File}
use Rattle.route_record.specs.declared.Failures.{Failures}
use Rattle.route_record.specs.declared.OspfRec.{OspfRec}
use Rattle.route_record.specs.declared.RibEntry.{RibEntry}
use Rattle.route_record.specs.declared.RibSource.{RibSource}
use Rattle.route_record.specs.declared.RibSource.TheVariants.{Connected, Static, Ebgp, Ospf, Ibgp}
use Rattle.route_record.specs.declared.Slot.{Slot}
use Rattle.route_record.specs.declared.Tables.{Tables}
use Rattle.route_record.specs.Places.{slot_at}
use Rattle.net_parts.specs.Entries.{entry_with, table_entry}
use Rattle.net_parts.specs.Sending.{same_record}
use Rattle.net_parts.specs.Stable.{held_ospf}
use Rattle.plan_places.specs.declared.places.Place.{Place}
use Rattle.plan_places.specs.Tables.{empty_slot}
use Rattle.world_variables.specs.declared.unknowns.Unknown.{Unknown}

-- ---- the bit of value 2 in the number of a source: 0 is a connected subnet, 1 a static route, 2 external BGP, 3 OSPF and
-- 4 internal BGP

abbrev pub is_dynamic : RibSource → Bool
is_dynamic Connected = false
is_dynamic Static = false
is_dynamic Ebgp = true
is_dynamic Ospf = true
is_dynamic Ibgp = false

-- that of an entry; false where there is none
abbrev pub has_dynamic : Option RibEntry → Bool
has_dynamic entry = option_map_or (λ e. is_dynamic e.source) entry false

-- the source whose number has that bit, and else the bits of another's
abbrev pub source_with : Bool → RibSource → RibSource
source_with dynamic Connected = if dynamic then Ebgp else Connected
source_with dynamic Static = if dynamic then Ospf else Static
source_with dynamic Ebgp = if dynamic then Ebgp else Connected
source_with dynamic Ospf = if dynamic then Ospf else Static
source_with dynamic Ibgp = Ibgp

abbrev pub entry_of_bit : Bool → RibEntry → RibEntry
entry_of_bit dynamic entry = record entry { source = source_with dynamic entry.source }

-- ---- slots

-- a slot with that OSPF route alone
abbrev pub bare : Option OspfRec → Slot
bare ospf = record { ospf = ospf; bgp = None; rib = None }

-- the entry of the table that follows: OSPF's counts only where the bit says so
abbrev pub entry_of : List File → Failures → Addr → ℕ → ℕ → Unknown → Option RibEntry
entry_of files failures d router len u =
    option_map (entry_of_bit u.dynamic) (option_and_then (λ file. entry_with files failures router file (prefix_at d len)
    (bare u.ospf) (not u.dynamic)) (slice_get files router))

abbrev pub open_slot : List File → Failures → Addr → ℕ → ℕ → Unknown → Slot
open_slot files failures d router len u = record {
  ospf = u.ospf;
  bgp = None;
  rib = entry_of files failures d router len u;
}

-- ---- the test

abbrev pub same_ospf : Option OspfRec → Option OspfRec → Bool
same_ospf None None = true
same_ospf None (Some b) = false
same_ospf (Some a) None = false
same_ospf (Some a) (Some b) = same_record a b

-- what is open of a slot of some tables is as they want it: the route that the router holds, and the bit of its table's
-- entry, also beside a route of BGP
abbrev pub is_wanted : List File → Failures → Addr → Tables → ℕ → ℕ → Unknown → Slot → File → Bool
is_wanted files failures d tables router len u slot file =
    same_ospf u.ospf (held_ospf files failures tables router file (prefix_at d len))
    && beq u.dynamic (has_dynamic (table_entry files failures router file (prefix_at d len) slot))

-- ---- what is open of slots that are known

abbrev pub unknown_of : Slot → Unknown
unknown_of slot = record { ospf = slot.ospf; dynamic = has_dynamic slot.rib }

abbrev pub unknown_at : Tables → Place → Unknown
unknown_at tables p = unknown_of (unwrap_or (slot_at tables p.router p.len) empty_slot)
