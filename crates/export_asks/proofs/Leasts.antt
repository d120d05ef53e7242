-- The least length.
use Rattle.std.proofs.Common.{◌≡◌, ◌⊎◌, ℕ, ◌+◌, ◌<◌, Bool, false, subst, sym, inl, inr, arith}

-- none of the lengths below this one
abbrev pub NoneBelow : (ℕ → Bool) → ℕ → Type 0
NoneBelow is len = (shorter : ℕ) → shorter < len → is shorter ≡ false

-- and not this one
pub none_more : (is : ℕ → Bool) (len : ℕ) → NoneBelow is len → is len ≡ false → NoneBelow is (len + 1)
none_more is len none here shorter less = either (split less)
  where
    split : shorter < len + 1 → (shorter < len) ⊎ (shorter ≡ len)
    split h = grind arith

    either : (shorter < len) ⊎ (shorter ≡ len) → is shorter ≡ false
    either (inl before) = none shorter before
    either (inr same) = subst (λ n. is n ≡ false) (sym same) here
