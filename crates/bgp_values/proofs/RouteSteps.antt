-- A route whose fields and lists are as variables say has the shape that they say.
use Rattle.std.proofs.Common.{◌≡◌, ℕ, suc, ◌+◌, ◌*◌, ◌/◌, ◌%◌, Bool, true, false, List, [], ◌∷◌, length, refl, sym}
use Rattle.std.proofs.Common.{ap, ◌∙◌, Some, None, option_map}
use Rattle.std.proofs.Common.{arith, if◌then◌else◌}
use Rattle.std.specs.Prelude.{◌==◌}
use Rattle.route_record.specs.declared.BgpRec.{BgpRec}
use Rattle.route_record.specs.declared.tracked.Tracked.{Tracked}
use Rattle.route_record.specs.Origins.{origin_code, origin_of_code}
use Rattle.route_record.specs.Shape.{marked_number}
use Rattle.route_shapes.specs.Bgp.{BgpShape, address_number, learnt_number}
use Rattle.announced_shapes.specs.Sets.{marks_of}
use Rattle.bgp_variables.specs.declared.rooms.BgpRoom.{BgpRoom}
use Rattle.bgp_variables.specs.Marks.{marks_from}
use Rattle.bgp_variables.specs.Shapes.{IsRoomOf, MarksTracked, bgp_from, path_from, shape_from}
use Rattle.path_rebuild.specs.Shapes.{AreFew, route_of}
use Rattle.bgp_values.specs.Told.{HasFewMarks, as_told, lists_of, plain_address}

odd : (n : ℕ) → (1 + 2 * n) % 2 ≡ 1
odd n = omega arith

even : (n : ℕ) → (0 + 2 * n) % 2 ≡ 0
even n = omega arith

-- the marks of a set of marks are these
pub marks_back : (bs : List Bool) → marks_of (length bs) (marked_number bs) ≡ bs
marks_back [] = refl
marks_back (true ∷ bs) =
    let half : (1 + 2 * marked_number bs) / 2 ≡ marked_number bs = omega arith in
    let low = ap (λ r. r == 1) (odd (marked_number bs)) in
    let rest = ap (marks_of (length bs)) half ∙ marks_back bs in cc
marks_back (false ∷ bs) =
    let half : (0 + 2 * marked_number bs) / 2 ≡ marked_number bs = omega arith in
    let low = ap (λ r. r == 1) (even (marked_number bs)) in
    let rest = ap (marks_of (length bs)) half ∙ marks_back bs in cc

long_marks : (mays : List Bool) (v : ℕ → Bool) (from : ℕ) → length (marks_from mays v from) ≡ length mays
unfolding marks_from
long_marks [] v from = refl
long_marks (may ∷ mays) v from = ap suc (long_marks mays v (from + _))

pub marks_told : {A : Type 0} (ts : List A) (mays : List Bool) (v : ℕ → Bool) (from : ℕ) → length mays ≡ length ts →
    marks_of (length ts) (marked_number (marks_from mays v from)) ≡ marks_from mays v from
marks_told ts mays v from same =
    ap (λ n. marks_of n (marked_number (marks_from mays v from))) (sym same ∙ sym (long_marks mays v from))
    ∙ marks_back (marks_from mays v from)

-- the route with these numbers
abbrev pub with_numbers : BgpRec → BgpShape → BgpRec
with_numbers peers s = record peers {
  weight = s.preferences.weight;
  local_pref = s.preferences.local_pref;
  med = s.preferences.med;
  origin = origin_of_code s.preferences.origin;
}

pub route_told : (tracked : Tracked) (room : BgpRoom) (v : ℕ → Bool) (from : ℕ) (peers : BgpRec) →
    MarksTracked tracked room → learnt_number peers.from ≡ plain_address (shape_from room v from).from →
    peers.next_hop.0 ≡ (shape_from room v from).next_hop →
    address_number peers.originator ≡ plain_address (shape_from room v from).originator →
    route_of tracked (record {
      rec = with_numbers peers (shape_from room v from);
      shape = lists_of (shape_from room v from);
    }) ≡ as_told (shape_from room v from)
unfolding shape_from path_from
route_told tracked room v from peers marks came hop originator =
    let s = shape_from room v from in
    let numbers = marks_told tracked.numbers room.path.numbers v _ marks.numbers in
    let communities = marks_told tracked.communities room.communities v _ marks.communities in
    let clusters = marks_told tracked.clusters room.clusters v _ marks.clusters in
    λ i. record {
      preferences = record s.preferences { origin = origin_code (origin_of_code s.preferences.origin) };
      path = record s.path { numbers = numbers i };
      communities = communities i;
      next_hop = hop i;
      originator = originator i;
      from = came i;
      cluster_len = s.cluster_len;
      clusters = clusters i;
    }

-- a row of the room has a mark for each tracked value, of which there are few
pub few_marks : (tracked : Tracked) (room : BgpRoom) → AreFew tracked → IsRoomOf tracked room → HasFewMarks room
few_marks tracked room few is =
    let numbers = is.1.numbers in
    let communities = is.1.communities in
    let clusters = is.1.clusters in
    record {
      numbers = omega (arith, numbers, few.numbers);
      communities = omega (arith, communities, few.communities);
      clusters = omega (arith, clusters, few.clusters);
    }

pub told_there : (room : BgpRoom) (v : ℕ → Bool) (from : ℕ) (b : Bool) → v from ≡ b →
    option_map as_told (bgp_from (Some room) v from)
    ≡ (if b then Some (as_told (shape_from room v (from + 1))) else None)
told_there room v from true is =
    ap (λ b. option_map as_told (if b then Some (shape_from room v (from + 1)) else None)) is
told_there room v from false is =
    ap (λ b. option_map as_told (if b then Some (shape_from room v (from + 1)) else None)) is
