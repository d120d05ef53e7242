-- Slots without their BGP routes, by what is open of them and by where the BGP route was learnt.
use Rattle.std.specs.Prelude.{ℕ, Bool, false, not, List, Option, Some, None, option_and_then, option_map, slice_get}
use Rattle.std.specs.Prelude.{if◌then◌else◌}
use Rattle.std.specs.Option.{option_map_or}
use Rattle.mw_text.specs.declared.address.Addr.{Addr}
use Rattle.mw_text.specs.declared.address.Prefix.{Prefix}
use Rattle.mw_text.specs.Address.{prefix_at}
use Rattle.ios_ast.specs.declared.file.File.{File}
use Rattle.route_record.specs.declared.Failures.{Failures}
use Rattle.route_record.specs.declared.OspfRec.{OspfRec}
use Rattle.route_record.specs.declared.RibEntry.{RibEntry}
use Rattle.route_record.specs.declared.Slot.{Slot}
use Rattle.route_shapes.specs.Bgp.{learnt_number}
use Rattle.plan_places.specs.declared.places.Place.{Place}
use Rattle.plan_places.specs.Tables.{empty_slot}
use Rattle.slot_places.specs.declared.rooms.Room.{Room}
use Rattle.slot_places.specs.Rooms.{can_be_used, room_among, rooms_of}
use Rattle.sym_rib.specs.Sources.{entry_from}
use Rattle.world_variables.specs.declared.unknowns.Unknown.{Unknown}
use Rattle.world_variables.specs.Slots.{entry_of_bit}
use Rattle.path_rebuild.specs.declared.ShapeRec.{ShapeRec}

-- the number that tells where a route was learnt
abbrev pub learnt_of : Option ShapeRec → Option ℕ
learnt_of route = option_map (λ s. learnt_number s.rec.from) route

-- the entry of a router's table for the prefix of that length
abbrev pub entry_learnt : List File → Failures → Addr → Place → Option ℕ → Option OspfRec → Bool → Option RibEntry
entry_learnt files failures d p learnt ospf own =
    option_and_then (λ file. entry_from files failures p.router file (prefix_at d p.len) learnt ospf own)
    (slice_get files p.router)

-- a slot that can hold routes of OSPF of that room, or none
abbrev pub slot_learnt : List File → Failures → Addr → Option Room → Place → Unknown → Option ℕ → Slot
slot_learnt files failures d None p u learnt = record {
  ospf = None;
  bgp = None;
  rib = entry_learnt files failures d p learnt None false;
}
slot_learnt files failures d (Some room) p u learnt = record {
  ospf = u.ospf;
  bgp = None;
  rib = option_map (entry_of_bit u.dynamic) (entry_learnt files failures d p learnt u.ospf (not u.dynamic));
}

-- the slot at a place: an empty one off the places of the plan, and where nothing can stand
abbrev pub slot_without : List File → Prefix → Failures → Addr → Place → Option Unknown → Option ℕ → Slot
slot_without files destinations failures d p unknown learnt = option_map_or (λ u.
    if can_be_used files destinations p.router p.len
    then slot_learnt files failures d (room_among files (rooms_of files destinations) p.router p.len) p u learnt
    else empty_slot) unknown empty_slot
