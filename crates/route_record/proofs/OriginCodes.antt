-- Origins and their codes.
use Rattle.std.proofs.Common.{◌≡◌, ℕ, zero, suc, ◌≤◌, refl, arith}
use Rattle.route_record.specs.declared.Origin.{Origin}
use Rattle.route_record.specs.declared.Origin.TheVariants.{Igp, Egp, Incomplete}
use Rattle.route_record.specs.Origins.{origin_code, origin_of_code}

-- the origin of its code
pub code_back : (origin : Origin) → origin_of_code (origin_code origin) ≡ origin
code_back Igp = refl
code_back Egp = refl
code_back Incomplete = refl

-- a code is at most 2
pub code_small : (origin : Origin) → origin_code origin ≤ 2
code_small Igp = omega arith
code_small Egp = omega arith
code_small Incomplete = omega arith

-- and such a number is the code of its origin
pub code_again : (n : ℕ) → n ≤ 2 → n ≡ origin_code (origin_of_code n)
code_again zero small = refl
code_again (suc zero) small = refl
code_again (suc (suc zero)) small = refl
code_again (suc (suc (suc n))) small = omega arith
