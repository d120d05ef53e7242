-- What is read of slots fits the fields of a route.
use Rattle.std.proofs.Common.{◌≡◌, ℕ, zero, suc, ◌+◌, ◌^◌, ◌<◌, Bool, true, false, List, []}
use Rattle.std.proofs.Common.{◌∷◌, Option, Some, None, arith, ◌∙◌}
use Rattle.std.specs.Prelude.{All, IfSome, ◌≤◌, map, slice_index, if◌then◌else◌}
use Rattle.std.proofs.lemmas.List.Elements.{All-cons, All-head, All-nil, All-tail}
use Rattle.std.proofs.lemmas.Nat.{pow_pos}
use Rattle.std.proofs.Math.Pow.{pow_mono}
use Rattle.mw_text.specs.declared.address.Prefix.{Prefix}
use Rattle.ios_ast.specs.declared.file.File.{File}
use Rattle.route_record.specs.declared.TheConstants.{LENGTHS}
use Rattle.route_record.specs.Fits.{FitsOspf}
use Rattle.plan_places.specs.declared.places.Place.{Place}
use Rattle.slot_places.specs.declared.fields.Field.{Field}
use Rattle.slot_places.specs.declared.fields.Field.TheVariants.{Bits, Among, Addresses}
use Rattle.slot_places.specs.declared.rooms.Room.{Room}
use Rattle.slot_places.specs.Rooms.{room_for, rooms_of}
use Rattle.slot_places.specs.Values.{address_numbers, field_width, read_as}
use Rattle.world_variables.specs.Unknowns.{HasWords, IsNarrow, TellsWithin, rooms_at, route_from, unknown_from}
use Rattle.world_variables.specs.Unknowns.{unknown_width, unknowns_from}
use Rattle.failed_links.specs.Rows.{number_from}
use Rattle.failed_links.proofs.Reading.{number_from-below}
use Rattle.world_variables.proofs.FieldSteps.{address_fits}
use Rattle.world_variables.proofs.RoomSteps.{for_narrow}

-- ---- what is read fits

pub value_small : (values : List ℕ) (n bound : ℕ) → 0 < bound → All (λ x. x < bound) values → slice_index values n < bound
value_small [] n bound some all = some
value_small (x ∷ values) zero bound some all = All-head (λ y. y < bound) x values all
value_small (x ∷ values) (suc n) bound some all = value_small values n bound some (All-tail (λ y. y < bound) x values all)

numbers_small : (bits : ℕ) (addresses : List ℕ) → 33 ≤ bits → All (λ a. a < 2 ^ 32) addresses →
    All (λ n. n < 2 ^ bits) (map (λ a. 2 ^ 32 + a) addresses)
numbers_small bits [] long small = All-nil (λ n. n < 2 ^ bits)
numbers_small bits (a ∷ addresses) long small =
    All-cons (λ n. n < 2 ^ bits) (2 ^ 32 + a) (map (λ b. 2 ^ 32 + b) addresses)
    (address_fits a bits (All-head (λ b. b < 2 ^ 32) a addresses small) long)
    (numbers_small bits addresses long (All-tail (λ b. b < 2 ^ 32) a addresses small))

pub told_small : (bits : ℕ) (field : Field) (v : ℕ → Bool) (from : ℕ) → TellsWithin bits field →
    read_as field (number_from v from (field_width field)) < 2 ^ bits
told_small bits (Bits width) v from narrow =
    let below = number_from-below v from width in let top = pow_mono narrow in omega (arith, below, top)
told_small bits (Among values) v from narrow = value_small values _ (2 ^ bits) (pow_pos bits) narrow
told_small bits (Addresses addresses) v from narrow =
    value_small (address_numbers addresses) _ (2 ^ bits) (pow_pos bits)
    (All-cons (λ n. n < 2 ^ bits) 0 (map (λ a. 2 ^ 32 + a) addresses) (pow_pos bits)
    (numbers_small bits addresses narrow.0 narrow.1))

route_fits : (room : Room) (v : ℕ → Bool) (from : ℕ) → IsNarrow room → FitsOspf (route_from room v from)
route_fits room v from narrow =
    let cost = number_from-below v (from + field_width room.kind + field_width room.metric) room.cost in
    let top = pow_mono narrow.cost in
    record { metric = told_small 32 room.metric v (from + field_width room.kind) narrow.metric; cost = omega (arith, cost, top) }

open_fits : (room : Option Room) (v : ℕ → Bool) (from : ℕ) → IfSome room IsNarrow →
    IfSome (unknown_from room v from).ospf FitsOspf
open_fits None v from narrow = tt
open_fits (Some room) v from narrow = by (v from) where
  by : (b : Bool) → IfSome (if b then Some (route_from room v (from + 1)) else None) FitsOspf
  by true = route_fits room v (from + 1) narrow
  by false = tt

pub opens_fit : (files : List File) (destinations : Prefix) (places : List Place) (v : ℕ → Bool) (from : ℕ) →
    All (λ o. IfSome o (λ r. HasWords r.metric)) (rooms_of files destinations) → All (λ p. p.len < LENGTHS) places →
    All (λ u. IfSome u.ospf FitsOspf) (unknowns_from (rooms_at files destinations places) v from)
unfolding unknowns_from
opens_fit files destinations [] v from words short = All-nil (λ u. IfSome u.ospf FitsOspf)
opens_fit files destinations (p ∷ places) v from words short =
    let room = room_for files destinations p.router p.len in
    All-cons (λ u. IfSome u.ospf FitsOspf) (unknown_from room v from)
    (unknowns_from (rooms_at files destinations places) v (from + unknown_width room))
    (open_fits room v from (for_narrow files destinations p.router p.len words (All-head (λ (q : Place). q.len < LENGTHS)
    p places short)))
    (opens_fit files destinations places v (from + unknown_width room) words
    (All-tail (λ (q : Place). q.len < LENGTHS) p places short))
