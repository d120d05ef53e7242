-- The test for UTF-8.
use Rattle.std.proofs.Common.{◌≡◌, List, ℕ, Bool, true, false, refl}
use Rattle.std.specs.Str.{IsUtf8, is_utf8}
use Rattle.std.proofs.lemmas.Str.{IsUtf8-from_is_utf8, is_utf8-from_IsUtf8}

-- it is true of UTF-8 and of nothing else
pub utf8_fails : (bs : List ℕ) → (IsUtf8 bs → ⊥) → is_utf8 bs ≡ false
utf8_fails bs other = by_test (is_utf8 bs) (λ yes. other (IsUtf8-from_is_utf8 bs yes)) where
  by_test : (b : Bool) → (b ≡ true → ⊥) → b ≡ false
  by_test true never = absurd (never refl)
  by_test false never = refl

pub ruleset utf8_tests = (utf8_fails, is_utf8-from_IsUtf8)
