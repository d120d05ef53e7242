-- Masks by their lengths.
use Rattle.std.proofs.Common.{◌≡◌, ℕ, suc, ◌+◌, ◌-◌, ◌<◌, ◌==◌, ◌≤◌, Some, None, refl, ap, arith, ◌∙◌, cond}
use Rattle.mw_text.specs.declared.address.Addr.{Addr}
use Rattle.mw_text.specs.Address.{mask_of}
use Rattle.ios_policy_reader.specs.Masks.{length_below}

length_below-suc : (m : Addr) (len : ℕ)
    → length_below m (suc len) ≡ cond (mask_of len == m.0) (Some len) (length_below m len)
unfolding length_below
length_below-suc m len = refl

-- of the lengths up to 32 - zeros, the greatest is tested first
pub length_below_step : (m : Addr) (zeros : ℕ) → zeros < 33 →
    length_below m (33 - zeros) ≡ cond (mask_of (32 - zeros) == m.0) (Some (32 - zeros))
    (length_below m (33 - (zeros + 1)))
length_below_step m zeros small =
    let next : 33 - zeros ≡ suc (32 - zeros) = omega arith in
    let rest : 32 - zeros ≡ 33 - (zeros + 1) = omega arith in
    ap (length_below m) next ∙ length_below-suc m (32 - zeros)
    ∙ ap (λ n. cond (mask_of (32 - zeros) == m.0) (Some (32 - zeros)) (length_below m n)) rest

length_below-zero : (m : Addr) → length_below m 0 ≡ None
unfolding length_below
length_below-zero m = refl

-- no length is left
pub length_below_end : (m : Addr) (zeros : ℕ) → 33 ≤ zeros → length_below m (33 - zeros) ≡ None
length_below_end m zeros done =
    let none : 33 - zeros ≡ 0 = omega arith in ap (length_below m) none ∙ length_below-zero m
