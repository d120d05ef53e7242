-- Reading numbers and values from a row of variables.
use Rattle.std.proofs.Common.{◌≡◌, ℕ, zero, suc, ◌+◌, ◌*◌, ◌/◌, ◌%◌, ◌^◌, ◌<◌, Bool, true, false, List, [], ◌∷◌, ◌++◌}
use Rattle.std.proofs.Common.{length, refl, sym, ap, subst, arith, ◌∙◌}
use Rattle.std.specs.Prelude.{◌==◌}
use Rattle.std.proofs.Math.Nat.{div-add-mod, pow-suc}
use Rattle.term_arith.specs.Bits.{bit, number_of}
use Rattle.failed_links.specs.Rows.{IsAt, digits, number_from, row}
use Rattle.term_store.specs.Terms.{truth}

-- ---- rows

pub length-row : (v : ℕ → Bool) (from count : ℕ) → length (row v from count) ≡ count
length-row v from zero = refl
length-row v from (suc count) = ap suc (length-row v (from + 1) count)

-- the variable at the front, and the row behind it
pub one_then : (v : ℕ → Bool) (from : ℕ) (b : Bool) (rest : List Bool) → IsAt v from (b ∷ rest) →
    (v from ≡ b) × IsAt v (from + 1) rest
one_then v from b rest here = (cc, cc)

-- the row behind some values
pub after : (v : ℕ → Bool) (from : ℕ) (front rest : List Bool) → IsAt v from (front ++ rest) →
    IsAt v from front × IsAt v (from + length front) rest
after v from [] rest here = (refl, subst (λ n. IsAt v n rest) (omega arith) here)
after v from (b ∷ front) rest here =
    let one = one_then v from b (front ++ rest) here in
    let others = after v (from + 1) front rest one.1 in
    (cc, subst (λ n. IsAt v n rest) (omega arith) others.1)

-- ---- numbers

pub length-digits : (width n : ℕ) → length (digits width n) ≡ width
length-digits zero n = refl
length-digits (suc width) n = ap suc (length-digits width (n / 2))

low_bit : (m : ℕ) → m < 2 → bit (m == 1) ≡ m
low_bit zero small = refl
low_bit (suc zero) small = refl
low_bit (suc (suc m)) small = absurd (omega (arith, small))

half : (n power : ℕ) → n < 2 * power → n / 2 < power
half n power small =
    let parts = div-add-mod n 2 in omega (arith, parts, small)

-- so many bits are the number, where it has no more
pub number-digits : (width n : ℕ) → n < 2 ^ width → number_of (digits width n) ≡ n
number-digits zero n small = omega (arith, small)
number-digits (suc width) n small =
    let rest = number-digits width (n / 2) (half n (2 ^ width) (omega (arith, small, pow-suc 2 width))) in
    let parts = div-add-mod n 2 in
    let low = low_bit (n % 2) (omega (arith, parts)) in
    omega (arith, rest, low, parts)

-- a number before a row
pub field_at : (v : ℕ → Bool) (from width n : ℕ) (rest : List Bool) → n < 2 ^ width →
    IsAt v from (digits width n ++ rest) → (number_from v from width ≡ n) × IsAt v (from + width) rest
unfolding number_from
field_at v from width n rest small here =
    let parts = after v from (digits width n) rest here in
    let long = length-digits width n in (
      ap number_of (subst (λ k. row v from k ≡ digits width n) long parts.0) ∙ number-digits width n small,
      subst (λ k. IsAt v (from + k) rest) long parts.1,
    )

-- ---- the row as values of variables

shifted : (b : Bool) (bs : List Bool) (from count : ℕ) →
    row (truth (b ∷ bs)) (suc from) count ≡ row (truth bs) from count
shifted b bs from zero = refl
shifted b bs from (suc count) =
    let next : suc (from + 1) ≡ suc from + 1 = omega arith in
    ap (λ rest. truth bs from ∷ rest)
    (ap (λ k. row (truth (b ∷ bs)) k count) (sym next) ∙ shifted b bs (from + 1) count)

-- the values of a row are those of the variables from 0 on
pub IsAt-truth : (bs : List Bool) → IsAt (truth bs) 0 bs
IsAt-truth [] = refl
IsAt-truth (b ∷ bs) = ap (λ rest. b ∷ rest) (shifted b bs 0 (length bs) ∙ IsAt-truth bs)

-- ---- a number of so many bits is below their power

pub number-below : (bs : List Bool) → number_of bs < 2 ^ length bs
number-below [] = omega arith
number-below (b ∷ bs) =
    let rest = number-below bs in
    let small = bit_below b in
    omega (arith, rest, small, pow-suc 2 (length bs))
  where
    bit_below : (b : Bool) → bit b < 2
    bit_below true = omega arith
    bit_below false = omega arith

pub number_from-below : (v : ℕ → Bool) (from width : ℕ) → number_from v from width < 2 ^ width
unfolding number_from
number_from-below v from width =
    subst (λ k. number_of (row v from width) < 2 ^ k) (length-row v from width) (number-below (row v from width))
