-- What is so of some number below a bound.
use Rattle.std.proofs.Common.{◌≡◌, ◌⊎◌, ℕ, zero, suc, ◌<◌, ◌≤◌, ◌||◌, Bool, true, false, inl, inr, refl, sym, subst, arith, ◌∙◌}
use Rattle.std.proofs.lemmas.Bool.{cases_lt, or_left, or_right, true≢false}
use Rattle.export_terms.specs.Shapes.{any_below}

pub any_none : (is : ℕ → Bool) → any_below zero is ≡ false
unfolding any_below
any_none is = refl

pub any_more : (n : ℕ) (is : ℕ → Bool) → any_below (suc n) is ≡ (any_below n is || is n)
unfolding any_below
any_more n is = refl

either_true : (a b : Bool) → (a || b) ≡ true → (a ≡ true) ⊎ (b ≡ true)
either_true true b h = inl refl
either_true false b h = inr h

pub any_some : (n : ℕ) (is : ℕ → Bool) → any_below n is ≡ true → (k : ℕ) × (k < n) × (is k ≡ true)
any_some zero is any = absurd (true≢false (sym any ∙ any_none is))
any_some (suc n) is any =
    by (either_true (any_below n is) (is n) (sym (any_more n is) ∙ any)) (λ before. any_some n is before)
  where
    by : (any_below n is ≡ true) ⊎ (is n ≡ true) →
        (any_below n is ≡ true → (k : ℕ) × (k < n) × (is k ≡ true)) → (k : ℕ) × (k < suc n) × (is k ≡ true)
    by (inl before) rest =
        let found = rest before in
        let below = found.1 in
        (found.0, omega (arith, below), found.2)
    by (inr here) rest = (n, omega arith, here)

pub any_each : (n : ℕ) (is : ℕ → Bool) (k : ℕ) → k < n → is k ≡ true → any_below n is ≡ true
any_each zero is k below here = absurd (omega (arith, below))
any_each (suc n) is k below here = any_more n is ∙ by (cases_lt k n) (λ before. any_each n is k before here)
  where
    by : (k < n) ⊎ (n ≤ k) → (k < n → any_below n is ≡ true) → (any_below n is || is n) ≡ true
    by (inl before) rest = or_left (any_below n is) (is n) (rest before)
    by (inr past) rest =
        let same : k ≡ n = omega (arith, below, past) in
        or_right (any_below n is) (is n) (subst (λ m. is m ≡ true) same here)
