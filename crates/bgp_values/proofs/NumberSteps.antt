-- Numbers of up to 33 variables.
use Rattle.std.proofs.Common.{◌≡◌, ℕ, zero, suc, ◌+◌, ◌-◌, ◌*◌, ◌^◌, ◌≤◌, Bool, true, false, List, length, ap}
use Rattle.std.proofs.Common.{arith, ◌∙◌, if◌then◌else◌}
use Rattle.std.specs.Prelude.{nat_lt}
use Rattle.std.proofs.Math.Nat.{pow-suc}
use Rattle.failed_links.specs.Rows.{number_from, row}
use Rattle.term_arith.specs.Bits.{bit, number_of}
use Rattle.slot_places.specs.declared.fields.Field.{Field}
use Rattle.slot_places.specs.declared.fields.Field.TheVariants.{Addresses, Among, Bits}
use Rattle.slot_places.specs.Values.{field_width, width_from}
use Rattle.world_variables.specs.Unknowns.{TellsWithin}

twice : (width : ℕ) (b : Bool) → 2 ^ suc width * bit b ≡ 2 * (2 ^ width * bit b)
twice width true = omega (arith, pow-suc 2 width)
twice width false = omega arith

-- one more variable is the highest bit
more : (v : ℕ → Bool) (from width : ℕ) → number_of (row v from (suc width))
    ≡ number_of (row v from width) + 2 ^ width * bit (v (from + width))
more v from zero =
    let place : from ≡ from + 0 = omega arith in
    let same = ap (λ k. bit (v k)) place in omega (arith, same)
more v from (suc width) =
    let place : from + 1 + width ≡ from + suc width = omega arith in
    let same = ap (λ k. 2 ^ width * bit (v k)) place in
    let rest = more v (from + 1) width in
    let top = twice width (v (from + suc width)) in
    omega (arith, rest, same, top)

pub number_long : (v : ℕ → Bool) (from : ℕ) → number_from v from 33
    ≡ number_from v from 32 + (if v (from + 32) then 4294967296 else 0)
unfolding number_from
number_long v from = more v from 32 ∙ by (v (from + 32)) (number_of (row v from 32))
  where
    by : (b : Bool) (low : ℕ) → low + 2 ^ 32 * bit b ≡ low + (if b then 4294967296 else 0)
    by true low = omega arith
    by false low = omega arith

-- a width that is tried from one on is at most so many more
few : (n width tries : ℕ) → width_from n width tries ≤ width + tries
unfolding width_from
few n width zero = omega arith
few n width (suc tries) = by (nat_lt n (2 ^ width)) (few n (suc width) tries) where
  by : (b : Bool) → width_from n (suc width) tries ≤ suc width + tries →
      (if b then width else width_from n (suc width) tries) ≤ width + suc tries
  by true rest = omega arith
  by false rest = omega (arith, rest)

-- a field that tells numbers of 33 bits has no more variables
pub long_bits : (field : Field) → TellsWithin 33 field → field_width field ≤ 33
long_bits (Bits width) narrow = narrow
long_bits (Among values) narrow = let below = few (length values - 1) 0 32 in omega (arith, below)
long_bits (Addresses addresses) narrow = let below = few (length addresses) 0 32 in omega (arith, below)
