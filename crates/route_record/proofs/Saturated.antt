-- What tests see of a length is told by 32 bits.
use Rattle.std.proofs.Common.{◌≡◌, ℕ, ◌+◌, ◌^◌, ◌<◌, ◌==◌, nat_le, nat_lt, if◌then◌else◌, Bool, true, false, arith, refl}
use Rattle.std.proofs.lemmas.Bool.Decides.{nat_tests}
use Rattle.route_record.specs.Shape.{saturated}

pub saturated-zero : (n : ℕ) → (saturated n == 0) ≡ (n == 0)
unfolding saturated
saturated-zero n = grind (arith, nat_tests)

pub saturated-one : (n : ℕ) → (saturated n == 1) ≡ (n == 1)
unfolding saturated
saturated-one n = grind (arith, nat_tests)

pub saturated-some : (n : ℕ) → nat_lt 0 (saturated n) ≡ nat_lt 0 n
unfolding saturated
saturated-some n = grind (arith, nat_tests)

-- a path of AS numbers has at most 255 of them
pub saturated-few : (n : ℕ) → nat_le (saturated n) 255 ≡ nat_le n 255
unfolding saturated
saturated-few n = grind (arith, nat_tests)

pub saturated-none : saturated 0 ≡ 0
unfolding saturated
saturated-none = omega arith

pub saturated-sum : (a b : ℕ) → saturated (saturated a + b) ≡ saturated (a + b)
unfolding saturated
saturated-sum a b = omega arith

-- a length that fits is itself
pub saturated-small : (n : ℕ) → n < 2 ^ 32 → n ≡ saturated n
unfolding saturated
saturated-small n small = omega arith

-- a sum where it fits, and else the greatest number
pub saturated_choice : (a b sum : ℕ) (fits : Bool) → fits ≡ nat_lt (a + saturated b) (2 ^ 32) →
    (fits ≡ true → sum ≡ a + saturated b) → (if fits then sum else 4294967295) ≡ saturated (a + b)
unfolding saturated
saturated_choice a b sum true fits is = let whole = is refl in grind (arith, nat_tests)
saturated_choice a b sum false fits is = grind (arith, nat_tests)
