-- Rows of marks, mark by mark.
use Rattle.std.proofs.Common.{◌≡◌, ℕ, zero, suc, ◌+◌, ◌-◌, ◌*◌, ◌^◌, ◌<◌, ◌≤◌, Bool, true, false, List, [], ◌∷◌}
use Rattle.std.proofs.Common.{length, drop, get_or}
use Rattle.std.proofs.Common.{refl, sym, ap, subst, ◌∙◌, arith, if◌then◌else◌, ◌&&◌}
use Rattle.std.proofs.lemmas.List.{drop_all, drop_more}
use Rattle.std.proofs.Math.Nat.{pow-suc}
use Rattle.std.proofs.Math.Pow.{pow_mono}
use Rattle.route_record.specs.Shape.{marked_number}
use Rattle.bgp_variables.specs.Marks.{mark_width, marks_from, marks_width}

pub width_none : marks_width [] ≡ 0
unfolding marks_width
width_none = refl

-- the width from a place on
pub width_on : (mays : List Bool) (k : ℕ) → k < length mays →
    marks_width (drop k mays) ≡ mark_width (get_or mays k false) + marks_width (drop (k + 1) mays)
unfolding marks_width
width_on mays k within = ap marks_width (drop_more mays k false within)

pub width_end : (mays : List Bool) (k : ℕ) → length mays ≤ k → marks_width (drop k mays) ≡ 0
unfolding marks_width
width_end mays k all = ap marks_width (drop_all k mays all)

-- what comes behind a place has no more than all
pub width_part : (mays : List Bool) (k : ℕ) → marks_width (drop k mays) ≤ marks_width mays
unfolding marks_width
width_part [] zero = omega arith
width_part [] (suc k) = omega arith
width_part (may ∷ mays) zero = omega arith
width_part (may ∷ mays) (suc k) = let rest = width_part mays k in omega (arith, rest)

-- one more mark in front
pub width_before : (mays : List Bool) (i : ℕ) → 0 < i → i ≤ length mays →
    marks_width (drop (i - 1) mays) ≡ mark_width (get_or mays (i - 1) false) + marks_width (drop i mays)
unfolding marks_width
width_before mays i above within =
    let next : i - 1 + 1 ≡ i = omega arith in
    ap marks_width (drop_more mays (i - 1) false (omega arith))
    ∙ ap (λ k. mark_width (get_or mays (i - 1) false) + marks_width (drop k mays)) next

pub marks_before : (mays : List Bool) (i : ℕ) (v : ℕ → Bool) (at : ℕ) → 0 < i → i ≤ length mays →
    marked_number (marks_from (drop (i - 1) mays) v at)
    ≡ (if get_or mays (i - 1) false && v at then 1 else 0)
    + 2 * marked_number (marks_from (drop i mays) v (at + mark_width (get_or mays (i - 1) false)))
unfolding marks_from
marks_before mays i v at above within =
    let may = get_or mays (i - 1) false in
    let next : i - 1 + 1 ≡ i = omega arith in
    ap (λ ms. marked_number (marks_from ms v at)) (drop_more mays (i - 1) false (omega arith))
    ∙ ap (λ k. (if may && v at then 1 else 0)
    + 2 * marked_number (marks_from (drop k mays) v (at + mark_width may))) next

pub marks_end : (mays : List Bool) (k : ℕ) (v : ℕ → Bool) (at : ℕ) → length mays ≤ k →
    0 ≡ marked_number (marks_from (drop k mays) v at)
unfolding marks_from
marks_end mays k v at all = sym (ap (λ ms. marked_number (marks_from ms v at)) (drop_all k mays all))

-- a set of fewer positions than there may be has room for one more
pub room_for_more : (set i count : ℕ) → 0 < i → i ≤ count → count ≤ 128 → set < 2 ^ (count - i) → set < 2 ^ 127
room_for_more set i count above within few small =
    let less : count - i ≤ 127 = omega arith in
    let most = pow_mono less in omega (arith, small, most)

pub small_more : (set i count : ℕ) (bit : Bool) → 0 < i → i ≤ count → set < 2 ^ (count - i) →
    (if bit then 1 else 0) + 2 * set < 2 ^ (count - (i - 1))
small_more set i count bit above within small =
    let size : count - (i - 1) ≡ suc (count - i) = omega arith in
    subst (λ k. (if bit then 1 else 0) + 2 * set < 2 ^ k) (sym size) (by bit)
  where
    by : (b : Bool) → (if b then 1 else 0) + 2 * set < 2 ^ suc (count - i)
    by true = omega (arith, small, pow-suc 2 (count - i))
    by false = omega (arith, small, pow-suc 2 (count - i))
