-- What is open of the slots is read from its bits.
use Rattle.std.proofs.Common.{◌≡◌, ℕ, ◌+◌, Bool, true, false, List, [], ◌∷◌, ◌++◌}
use Rattle.std.proofs.Common.{Option, Some, None, refl, sym, ap, subst, arith, ◌∙◌}
use Rattle.std.specs.Prelude.{IfSome, if◌then◌else◌}
use Rattle.route_record.specs.declared.OspfKind.{OspfKind}
use Rattle.route_record.specs.declared.OspfKind.TheVariants.{Internal, Ext1, Ext2}
use Rattle.route_record.specs.declared.OspfRec.{OspfRec}
use Rattle.net_parts.specs.OspfRoutes.{kind_rank}
use Rattle.slot_places.specs.declared.fields.Field.{Field}
use Rattle.slot_places.specs.declared.rooms.Room.{Room}
use Rattle.slot_places.specs.Rooms.{FitsIn}
use Rattle.slot_places.specs.Values.{FitsField, field_width, read_as, told_as}
use Rattle.slot_places.proofs.Telling.{again, small}
use Rattle.sym_policy.specs.Held.{kind_of_number}
use Rattle.failed_links.specs.Failures.{none_of}
use Rattle.failed_links.specs.Rows.{IsAt, number_from}
use Rattle.world_variables.specs.declared.unknowns.Unknown.{Unknown}
use Rattle.world_variables.specs.Unknowns.{FitRooms, FitsRoom, field_digits, ospf_bits, route_bits, route_from}
use Rattle.world_variables.specs.Unknowns.{route_width, unknown_bits, unknown_from, unknown_width}
use Rattle.world_variables.specs.Unknowns.{unknowns_bits, unknowns_from, unknowns_width}
use Rattle.failed_links.proofs.Reading.{after, field_at, one_then}
use Rattle.failed_links.proofs.FailureParts.{length-none}

kind_again : (kind : OspfKind) → kind_of_number (kind_rank kind) ≡ kind
kind_again Internal = refl
kind_again Ext1 = refl
kind_again Ext2 = refl

-- a number that a field tells
pub told_at : (field : Field) (n : ℕ) (v : ℕ → Bool) (from : ℕ) (rest : List Bool) → FitsField field n →
    IsAt v from (field_digits field n ++ rest) →
    (read_as field (number_from v from (field_width field)) ≡ n) × IsAt v (from + field_width field) rest
told_at field n v from rest fits here =
    let told = field_at v from (field_width field) (told_as field n) rest (small field n fits) here in
    (ap (read_as field) told.0 ∙ again field n fits, told.1)

route_at : (room : Room) (r : OspfRec) (v : ℕ → Bool) (from : ℕ) (rest : List Bool) → FitsIn room r →
    IsAt v from (route_bits room r rest) →
    (route_from room v from ≡ r) × IsAt v (from + route_width room) rest
route_at room r v from rest fits here =
    let kind = told_at room.kind (kind_rank r.kind) v from _ fits.kind here in
    let metric = told_at room.metric r.metric v _ _ fits.metric kind.1 in
    let cost = field_at v _ room.cost r.cost rest fits.cost metric.1 in
    let is = ap kind_of_number kind.0 ∙ kind_again r.kind in (
      λ i. record { kind = is i; metric = metric.0 i; cost = cost.0 i },
      subst (λ k. IsAt v k rest) (omega arith) cost.1,
    )

ospf_at : (room : Room) (ospf : Option OspfRec) (v : ℕ → Bool) (from : ℕ) (rest : List Bool) →
    IfSome ospf (FitsIn room) → IsAt v from (ospf_bits room ospf rest) →
    ((if v from then Some (route_from room v (from + 1)) else None) ≡ ospf)
    × IsAt v (from + 1 + route_width room) rest
ospf_at room None v from rest fits here =
    let there = one_then v from false (none_of (route_width room) ++ rest) here in
    let past = after v (from + 1) (none_of (route_width room)) rest there.1 in (
      ap (λ b. if b then Some (route_from room v (from + 1)) else None) there.0,
      subst (λ k. IsAt v (from + 1 + k) rest) (length-none (route_width room)) past.1,
    )
ospf_at room (Some r) v from rest fits here =
    let there = one_then v from true (route_bits room r rest) here in
    let route = route_at room r v (from + 1) rest fits there.1 in
    (ap (λ b. if b then Some (route_from room v (from + 1)) else None) there.0 ∙ ap Some route.0, route.1)

unknown_read : (room : Option Room) (u : Unknown) (v : ℕ → Bool) (from : ℕ) (rest : List Bool) →
    FitsRoom room u → IsAt v from (unknown_bits room u rest) →
    (unknown_from room v from ≡ u) × IsAt v (from + unknown_width room) rest
unknown_read None u v from rest fits here =
    (λ i. record { ospf = sym fits.0 i; dynamic = sym fits.1 i }, subst (λ k. IsAt v k rest) (omega arith) here)
unknown_read (Some room) u v from rest fits here =
    let route = ospf_at room u.ospf v from (u.dynamic ∷ rest) fits here in
    let bit = one_then v _ u.dynamic rest route.1 in
    (λ i. record { ospf = route.0 i; dynamic = bit.0 i }, subst (λ k. IsAt v k rest) (omega arith) bit.1)

-- all that is open is read from its bits
pub unknowns_read : (rooms : List (Option Room)) (us : List Unknown) (v : ℕ → Bool) (from : ℕ)
    (rest : List Bool) → FitRooms rooms us → IsAt v from (unknowns_bits rooms us rest) →
    (unknowns_from rooms v from ≡ us) × IsAt v (from + unknowns_width rooms) rest
unfolding unknowns_from unknowns_bits unknowns_width
unknowns_read [] [] v from rest fits here = (refl, subst (λ k. IsAt v k rest) (omega arith) here)
unknowns_read [] (u ∷ us) v from rest fits here = absurd fits
unknowns_read (room ∷ rooms) [] v from rest fits here = absurd fits
unknowns_read (room ∷ rooms) (u ∷ us) v from rest fits here =
    let one = unknown_read room u v from _ fits.0 here in
    let others = unknowns_read rooms us v _ rest fits.1 one.1 in
    (cc, subst (λ k. IsAt v k rest) (omega arith) others.1)
