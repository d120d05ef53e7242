-- Marks that are kept as sets of positions.
use Rattle.std.proofs.Common.{◌≡◌, ℕ, zero, suc, ◌+◌, ◌/◌, ◌%◌, ◌^◌, ◌<◌, length}
use Rattle.std.proofs.Common.{refl, sym, ap, arith, add-one, if◌then◌else◌}
use Rattle.std.specs.Prelude.{◌==◌}
use Rattle.std.proofs.lemmas.Nat.{mod-pow-add}
use Rattle.route_record.specs.declared.BgpRec.{BgpRec}
use Rattle.route_record.specs.declared.tracked.Tracked.{Tracked}
use Rattle.route_record.specs.Shape.{marked_number, shape_of}
use Rattle.route_shapes.specs.Bgp.{bgp_shape}
use Rattle.bgp_shapes.specs.Held.{same_shape}
use Rattle.announced_shapes.specs.Sets.{marks_of}
use Rattle.path_rebuild.specs.declared.ShapeRec.{ShapeRec}
use Rattle.path_rebuild.specs.Shapes.{route_of, same_known}

pub length-marks_of : (count set : ℕ) → length (marks_of count set) ≡ count
length-marks_of zero set = refl
length-marks_of (suc count) set = ap suc (length-marks_of count (set / 2))

bit : (r : ℕ) → r < 2 → (if r == 1 then 1 else 0) ≡ r
bit zero small = refl
bit (suc zero) small = refl
bit (suc (suc r)) small = absurd (omega (arith, small))

-- the set of the marks of a set is as much of it as there are positions
pub marks_again : (count set : ℕ) → marked_number (marks_of count set) ≡ set % 2 ^ count
marks_again zero set = omega arith
marks_again (suc count) set =
    let rest = marks_again count (set / 2) in
    let halves = mod-pow-add set count 1 in
    let one = bit (set % 2) (omega arith) in
    let more : set % 2 ^ suc count ≡ set % 2 ^ (count + 1) = ap (λ k. set % 2 ^ k) (sym (add-one count)) in
    omega (arith, rest, halves, one, more)

-- a route has a shape where its parts and the shape of its lists are those that are known
pub known_shape : (tracked : Tracked) (rec : BgpRec) (known : ShapeRec) →
    same_known tracked rec (shape_of tracked rec) known ≡ same_shape (bgp_shape tracked rec) (route_of tracked known)
unfolding same_shape
known_shape tracked rec known =
    let numbers = marks_again (length tracked.numbers) known.shape.numbers in
    let communities = marks_again (length tracked.communities) known.shape.communities in
    let clusters = marks_again (length tracked.clusters) known.shape.clusters in
    cc
