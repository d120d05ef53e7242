-- The test for AS numbers tells them.
use Rattle.std.proofs.Common.{◌≡◌, ℕ, true}
use Rattle.std.specs.Prelude.{◌^◌, nat_lt}
use Rattle.std.proofs.lemmas.Bool.{and_from, and_parts, lt-ltb, ltb-true}
use Rattle.net_parts.specs.World.{IsAsNumber, is_as_number, is_word}

-- a number that passes the test is one
pub as_number : (n : ℕ) → is_as_number n ≡ true → IsAsNumber n
as_number n is = let both = and_parts (nat_lt 0 n) (is_word n) is in (ltb-true 0 n both.0, ltb-true n (2 ^ 32) both.1)

-- each passes the test
pub number_passes : (n : ℕ) → IsAsNumber n → is_as_number n ≡ true
number_passes n is = and_from _ _ (lt-ltb 0 n is.0) (lt-ltb n (2 ^ 32) is.1)
