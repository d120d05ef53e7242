-- The least width in which a number has room.
use Rattle.std.proofs.Common.{◌≡◌, ℕ, zero, suc, ◌+◌, ◌-◌, ◌^◌, ◌<◌, ◌≤◌, Bool, true, false, refl, ap, subst, arith, ◌∙◌}
use Rattle.std.proofs.Common.{nat_lt}
use Rattle.std.specs.Prelude.{if◌then◌else◌}
use Rattle.std.proofs.lemmas.Bool.{le-ltb, lt-ltb, ltb-true}
use Rattle.slot_places.specs.Values.{width_from}

-- a width in which the number has room
pub width_found : (n width : ℕ) → width < 32 → n < 2 ^ width → width_from n width (32 - width) ≡ width
unfolding width_from
width_found n width less fits =
    let more : 32 - width ≡ suc (32 - (width + 1)) = omega (arith, less) in
    ap (width_from n width) more
    ∙ ap (λ b. if b then width else width_from n (suc width) (32 - (width + 1))) (lt-ltb n (2 ^ width) fits)

-- trying one width more
pub width_more : (n width : ℕ) → width < 32 → 2 ^ width ≤ n →
    width_from n width (32 - width) ≡ width_from n (width + 1) (32 - (width + 1))
unfolding width_from
width_more n width less large =
    let more : 32 - width ≡ suc (32 - (width + 1)) = omega (arith, less) in
    let next : suc width ≡ width + 1 = omega arith in
    ap (width_from n width) more
    ∙ ap (λ b. if b then width else width_from n (suc width) (32 - (width + 1))) (le-ltb n (2 ^ width) large)
    ∙ ap (λ k. width_from n k (32 - (width + 1))) next

-- and where none is left
pub width_last : (n : ℕ) → width_from n 32 (32 - 32) ≡ 32
unfolding width_from
width_last n = refl

-- a number of at most so many bits has room where a greater one has
pub in_width : (n bound width more : ℕ) → n ≤ bound → n < 2 ^ (width + more) → n < 2 ^ width_from bound width more
unfolding width_from
in_width n bound width zero le fits = subst (λ k. n < 2 ^ k) (omega arith) fits
in_width n bound width (suc more) le fits = by (nat_lt bound (2 ^ width)) refl
    (in_width n bound (suc width) more le (subst (λ k. n < 2 ^ k) (omega arith) fits))
  where
    by : (b : Bool) → nat_lt bound (2 ^ width) ≡ b → n < 2 ^ width_from bound (suc width) more →
        n < 2 ^ (if b then width else width_from bound (suc width) more)
    by true less wider = let below = ltb-true bound (2 ^ width) less in omega (arith, below, le)
    by false more_bound wider = wider

few_step : (n width more : ℕ) (b : Bool) → width < 33 → width_from n (suc width) more < 33 →
    (if b then width else width_from n (suc width) more) < 33
few_step n width more true below deeper = below
few_step n width more false below deeper = deeper

-- no width is above 32
pub few : (n width more : ℕ) → width + more < 33 → width_from n width more < 33
unfolding width_from
few n width zero below = omega (arith, below)
few n width (suc more) below =
    few_step n width more (nat_lt n (2 ^ width)) (omega (arith, below))
    (few n (suc width) more (omega (arith, below)))
