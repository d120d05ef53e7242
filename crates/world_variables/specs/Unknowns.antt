-- What a formula leaves open of a slot of a routing, by variables: its OSPF route, and one bit of the source of its entry.
use Rattle.std.specs.Prelude.{◌≡◌, ℕ, ◌+◌, ◌^◌, ◌<◌, ◌≤◌, All, Bool, true, false, List, [], ◌∷◌, ◌++◌, Option, Some, None}
use Rattle.std.specs.Prelude.{IfSome, if◌then◌else◌, map}
use Rattle.mw_text.specs.declared.address.Prefix.{Prefix}
use Rattle.ios_ast.specs.declared.file.File.{File}
use Rattle.route_record.specs.declared.OspfRec.{OspfRec}
use Rattle.net_parts.specs.OspfRoutes.{kind_rank}
use Rattle.plan_places.specs.declared.places.Place.{Place}
use Rattle.slot_places.specs.declared.fields.Field.{Field}
use Rattle.slot_places.specs.declared.fields.Field.TheVariants.{Bits, Among, Addresses}
use Rattle.slot_places.specs.declared.rooms.Room.{Room}
use Rattle.slot_places.specs.Rooms.{FitsIn, room_for}
use Rattle.slot_places.specs.Values.{field_width, read_as, told_as}
use Rattle.sym_policy.specs.Held.{kind_of_number}
use Rattle.failed_links.specs.Failures.{none_of}
use Rattle.failed_links.specs.Rows.{digits, number_from}
use Rattle.world_variables.specs.declared.unknowns.Unknown.{Unknown}

-- ---- a route of a room: its kind, its metric and its cost

abbrev pub route_from : Room → (ℕ → Bool) → ℕ → OspfRec
route_from room v from = record {
  kind = kind_of_number (read_as room.kind (number_from v from (field_width room.kind)));
  metric = read_as room.metric (number_from v (from + field_width room.kind) (field_width room.metric));
  cost = number_from v (from + field_width room.kind + field_width room.metric) room.cost;
}

abbrev pub route_width : Room → ℕ
route_width room = field_width room.kind + field_width room.metric + room.cost

abbrev pub field_digits : Field → ℕ → List Bool
field_digits field n = digits (field_width field) (told_as field n)

abbrev pub route_bits : Room → OspfRec → List Bool → List Bool
route_bits room r rest =
    field_digits room.kind (kind_rank r.kind) ++ (field_digits room.metric r.metric ++ (digits room.cost r.cost ++ rest))

-- ---- what is open of a slot, where that is its room: whether there is a route, the route, and the bit of the entry

abbrev pub unknown_from : Option Room → (ℕ → Bool) → ℕ → Unknown
unknown_from None v from = record { ospf = None; dynamic = false }
unknown_from (Some room) v from = record {
  ospf = if v from then Some (route_from room v (from + 1)) else None;
  dynamic = v (from + 1 + route_width room);
}

abbrev pub unknown_width : Option Room → ℕ
unknown_width None = 0
unknown_width (Some room) = 1 + route_width room + 1

-- the variables of a route that is not there are false
abbrev pub ospf_bits : Room → Option OspfRec → List Bool → List Bool
ospf_bits room None rest = false ∷ (none_of (route_width room) ++ rest)
ospf_bits room (Some r) rest = true ∷ route_bits room r rest

abbrev pub unknown_bits : Option Room → Unknown → List Bool → List Bool
unknown_bits None u rest = rest
unknown_bits (Some room) u rest = ospf_bits room u.ospf (u.dynamic ∷ rest)

-- ---- what is open of all slots, one after another

unfoldable pub unknowns_from : List (Option Room) → (ℕ → Bool) → ℕ → List Unknown
unknowns_from [] v from = []
unknowns_from (room ∷ rooms) v from =
    unknown_from room v from ∷ unknowns_from rooms v (from + unknown_width room)

unfoldable pub unknowns_width : List (Option Room) → ℕ
unknowns_width [] = 0
unknowns_width (room ∷ rooms) = unknown_width room + unknowns_width rooms

unfoldable pub unknowns_bits : List (Option Room) → List Unknown → List Bool → List Bool
unknowns_bits [] us rest = rest
unknowns_bits (room ∷ rooms) [] rest = rest
unknowns_bits (room ∷ rooms) (u ∷ us) rest = unknown_bits room u (unknowns_bits rooms us rest)

-- the rooms of the slots at some places
abbrev pub rooms_at : List File → Prefix → List Place → List (Option Room)
rooms_at files destinations places = map (λ p. room_for files destinations p.router p.len) places

-- ---- what fits

-- a route that fits the room; where there is no room there is no route, and the bit is false
abbrev pub FitsRoom : Option Room → Unknown → Type 0
FitsRoom None u = (u.ospf ≡ None) × (u.dynamic ≡ false)
FitsRoom (Some room) u = IfSome u.ospf (FitsIn room)

abbrev pub FitRooms : List (Option Room) → List Unknown → Type 0
FitRooms [] [] = Unit {0}
FitRooms [] (u ∷ us) = ⊥
FitRooms (room ∷ rooms) [] = ⊥
FitRooms (room ∷ rooms) (u ∷ us) = FitsRoom room u × FitRooms rooms us

-- ---- rooms whose numbers fit the fields of a route

-- the values among which a field tells one fit 32 bits
abbrev pub HasWords : Field → Type 0
HasWords (Bits width) = Unit {0}
HasWords (Among values) = All (λ n. n < 2 ^ 32) values
HasWords (Addresses addresses) = All (λ a. a < 2 ^ 32) addresses

-- no number that the field can tell has more bits than that: that of an address has 33
abbrev pub TellsWithin : ℕ → Field → Type 0
TellsWithin bits (Bits width) = width ≤ bits
TellsWithin bits (Among values) = All (λ n. n < 2 ^ bits) values
TellsWithin bits (Addresses addresses) = (33 ≤ bits) × All (λ a. a < 2 ^ 32) addresses

pub record IsNarrow (room : Room) : Type 0 where
  pub kind : TellsWithin 2 room.kind
  pub metric : TellsWithin 32 room.metric
  pub cost : room.cost ≤ 32
