-- Comparisons under a mask, bit by bit.
use Rattle.std.proofs.Common.{◌≡◌, ℕ, ◌+◌, ◌*◌, ◌/◌, ◌%◌, ◌<◌, ◌≤◌, zero, suc, max, Bool, true, false, not, ◌&&◌, ◌||◌}
use Rattle.std.proofs.Common.{◌==◌}
use Rattle.std.proofs.Common.{List, drop, get_or, length, refl, sym, ap, ◌∙◌, arith, bit_or}
use Rattle.std.proofs.lemmas.Bool.Decides.{nat_tests}
use Rattle.std.proofs.lemmas.Grind.{common_steps}
use Rattle.std.specs.Int.Bits.{or_step, or_zero_l}
use Rattle.term_store.specs.declared.NodeId.{NodeId}
use Rattle.term_store.specs.Terms.{Reading, at, differ}
use Rattle.term_arith.specs.Bits.{bit, number}
use Rattle.term_arith.proofs.NumberLemmas.{bit_small, number_drop, number_drop_end, ids_end_at}

-- two numbers under a mask, by their lowest bits and the rests
low_masked : (b : Bool) (m n x y : ℕ) → x < 2 → y < 2
    → (m * 2 + max (bit b) x == n * 2 + max y x) ≡ (((x == 1) || not (differ b (y == 1))) && (m == n))
low_masked true m n zero zero hx hy = grind (arith, nat_tests)
low_masked true m n zero (suc zero) hx hy = grind (arith, nat_tests)
low_masked true m n (suc zero) zero hx hy = grind (arith, nat_tests)
low_masked true m n (suc zero) (suc zero) hx hy = grind (arith, nat_tests)
low_masked false m n zero zero hx hy = grind (arith, nat_tests)
low_masked false m n zero (suc zero) hx hy = grind (arith, nat_tests)
low_masked false m n (suc zero) zero hx hy = grind (arith, nat_tests)
low_masked false m n (suc zero) (suc zero) hx hy = grind (arith, nat_tests)
low_masked b m n (suc (suc x)) y hx hy = absurd (omega arith)
low_masked b m n x (suc (suc y)) hx hy = absurd (omega arith)

-- a comparison under a mask, by the lowest bit of the number
masked_bit : (b : Bool) (m v k : ℕ)
    → (bit_or (bit b + 2 * m) k == bit_or v k)
    ≡ (((k % 2 == 1) || not (differ b (v % 2 == 1))) && (bit_or m (k / 2) == bit_or (v / 2) (k / 2)))
masked_bit b m v k =
    let small = bit_small b in
    let half : (bit b + 2 * m) / 2 ≡ m = omega (arith, small) in
    let low : (bit b + 2 * m) % 2 ≡ bit b = omega (arith, small) in
    ap (λ l. l == bit_or v k)
    (or_step (bit b + 2 * m) k
    ∙ ap (λ h. bit_or h (k / 2) * 2 + max ((bit b + 2 * m) % 2) (k % 2)) half
    ∙ ap (λ o. bit_or m (k / 2) * 2 + max o (k % 2)) low)
    ∙ ap (λ r. bit_or m (k / 2) * 2 + max (bit b) (k % 2) == r) (or_step v k)
    ∙ low_masked b (bit_or m (k / 2)) (bit_or (v / 2) (k / 2)) (k % 2) (v % 2) (omega arith) (omega arith)

-- a comparison of what is left of some nodes, by the next one. Its first half shows which node that is
pub masked_node : (w : Reading) (ids : List NodeId) (i : ℕ) (d : NodeId) (v k : ℕ) → i < length ids
    → (at w (get_or ids i d) ≡ at w (get_or ids i d))
    × ((bit_or (number w (drop i ids)) k == bit_or v k)
    ≡ (((k % 2 == 1) || not (differ (at w (get_or ids i d)) (v % 2 == 1)))
    && (bit_or (number w (drop (i + 1) ids)) (k / 2) == bit_or (v / 2) (k / 2))))
masked_node w ids i d v k h = (
  refl,
  ap (λ n. bit_or n k == bit_or v k) (sym (number_drop w ids i d h))
      ∙ masked_bit (at w (get_or ids i d)) (number w (drop (i + 1) ids)) v k,
)

-- past the last node
pub masked_end : (w : Reading) (ids : List NodeId) (i v k : ℕ) → length ids ≤ i
    → (bit_or (number w (drop i ids)) k == bit_or v k) ≡ (bit_or v k == k)
masked_end w ids i v k h =
    ap (λ n. bit_or n k == bit_or v k) (number_drop_end w ids i h) ∙ ap (λ n. n == bit_or v k) (or_zero_l k)
    ∙ swapped k (bit_or v k)
  where
    swapped : (x y : ℕ) → (x == y) ≡ (y == x)
    swapped x y = grind (arith, nat_tests)

pub ruleset masked_steps = (common_steps, ids_end_at, masked_node, masked_end)
