-- A number that was read is within its bounds.
use Rattle.std.proofs.Common.{◌≡◌, ℕ, ◌≤◌, Bool, true, false, ◌&&◌, List, Option, Some, None, refl, subst, nat_le}
use Rattle.std.specs.Prelude.{option_and_then, if◌then◌else◌}
use Rattle.std.proofs.lemmas.Bool.{leb-true}
use Rattle.mw_text.specs.Digits.{is_numeral, value_of, number_of}
use Rattle.ios_policy_reader.specs.Words.{number_from}

-- it is no more than the greatest
pub written : (high n : ℕ) (word : List ℕ) → number_of high word ≡ Some n → n ≤ high
written high n word = by (is_numeral 10 word) (nat_le (value_of word) high) refl where
  by : (numeral fits : Bool) → nat_le (value_of word) high ≡ fits
      → (if numeral && fits then Some (value_of word) else None) ≡ Some n → n ≤ high
  by true true e h =
      let same : value_of word ≡ n = cc in
      subst (λ k. k ≤ high) same (leb-true _ _ e)
  by true false e h = absurd cc
  by false fits e h = absurd cc

chosen : (low high n m : ℕ) (fits : Bool) → nat_le low m ≡ fits → m ≤ high → (if fits then Some m else None) ≡ Some n
    → (low ≤ n) × (n ≤ high)
chosen low high n m true e below h =
    let same : m ≡ n = cc in
    subst (λ k. (low ≤ k) × (k ≤ high)) same (leb-true _ _ e, below)
chosen low high n m false e below h = absurd cc

-- a number that was read from a low one to a high one is between them
pub number_within : (low high n : ℕ) (word : List ℕ) → number_from low high word ≡ Some n → (low ≤ n) × (n ≤ high)
number_within low high n word = by (number_of high word) (λ m is. written high m word is) where
  by : (read : Option ℕ) → ((m : ℕ) → read ≡ Some m → m ≤ high)
      → option_and_then (λ m. if nat_le low m then Some m else None) read ≡ Some n → (low ≤ n) × (n ≤ high)
  by None below h = absurd cc
  by (Some m) below h = chosen low high n m (nat_le low m) refl (below m refl) h
