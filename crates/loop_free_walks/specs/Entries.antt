-- Entries of routing tables over which packets come nearer to their destinations.
use Rattle.std.specs.Prelude.{◌≡◌, ◌<◌, ◌==◌, ◌&&◌, ℕ, Bool, true, false, is_none, length, Some}
use Rattle.std.specs.Option.{option_map_or}
use Rattle.ios_ast.specs.declared.file.File.{File}
use Rattle.route_record.specs.declared.RibSource.{RibSource}
use Rattle.route_record.specs.declared.RibSource.TheVariants.{Connected, Static, Ebgp, Ospf, Ibgp}
use Rattle.route_record.specs.declared.Slot.{Slot}
use Rattle.route_record.specs.declared.Tables.{Tables}
use Rattle.route_record.specs.declared.TheConstants.{LENGTHS}
use Rattle.route_record.specs.Places.{slot_at}

-- a connected subnet, or OSPF
abbrev pub is_interior : RibSource → Bool
is_interior Connected = true
is_interior Static = false
is_interior Ebgp = false
is_interior Ospf = true
is_interior Ibgp = false

-- the entry of the slot, if there is one, is of such a source
abbrev pub is_interior_slot : Slot → Bool
is_interior_slot slot = option_map_or (λ entry. is_interior entry.source) slot.rib true

-- those of all slots are
abbrev pub AreInterior : Tables → Type 0
AreInterior tables =
    (router len : ℕ) (slot : Slot) → len < LENGTHS → slot_at tables router len ≡ Some slot →
    is_interior_slot slot ≡ true

-- the file has no static routes and no BGP process
abbrev pub is_plain : File → Bool
is_plain file = (length file.statics == 0) && is_none file.bgp
