-- A search for the first place at which a test passes.
use Rattle.std.proofs.Common.{◌≡◌, ◌∙◌, ℕ, suc, ◌+◌, ◌-◌, ◌<◌, ◌≤◌, Bool, true, false, Option, Some, None, refl}
use Rattle.std.proofs.Common.{arith, sym}
use Rattle.std.specs.List.{position, position_from, range_with_len}
use Rattle.std.proofs.lemmas.Iterator.Adapters.{position_from-zero}

step_off : (p : ℕ → Bool) (n at : ℕ) → p at ≡ false →
    position_from p at (range_with_len at (suc n)) ≡ position_from p (at + 1) (range_with_len (at + 1) n)
step_off p n at off = rw off refl

step_on : (p : ℕ → Bool) (n at : ℕ) → p at ≡ true → position_from p at (range_with_len at (suc n)) ≡ Some at
step_on p n at on = rw on refl

-- not at this place
pub passes_on : (p : ℕ → Bool) (n at : ℕ) (all : Option ℕ) → at < n → p at ≡ false →
    position_from p at (range_with_len at (n - at)) ≡ all →
    position_from p (at + 1) (range_with_len (at + 1) (n - (at + 1))) ≡ all
passes_on p n at all h off before =
    let e : n - at ≡ suc (n - (at + 1)) = omega arith in
    sym (step_off p (n - (at + 1)) at off) ∙ rw e at before

-- at this one
pub is_first : (p : ℕ → Bool) (n at : ℕ) (all : Option ℕ) → at < n → p at ≡ true →
    position_from p at (range_with_len at (n - at)) ≡ all → Some at ≡ all
is_first p n at all h on before =
    let e : n - at ≡ suc (n - (at + 1)) = omega arith in
    sym (step_on p (n - (at + 1)) at on) ∙ rw e at before

-- at none
pub is_none : (p : ℕ → Bool) (n at : ℕ) (all : Option ℕ) → n ≤ at →
    position_from p at (range_with_len at (n - at)) ≡ all → None ≡ all
is_none p n at all h before = let e : n - at ≡ 0 = omega arith in rw e at before

-- before any place was looked at
pub begins : (p : ℕ → Bool) (n : ℕ) →
    position_from p 0 (range_with_len 0 (n - 0)) ≡ position p (range_with_len 0 n)
begins p n = let e : n - 0 ≡ n = omega arith in rw e (sym (position_from-zero p (range_with_len 0 n)))
