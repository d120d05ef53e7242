-- A prefix that is known against that of some length of an address.
use Rattle.std.proofs.Common.{◌≡◌, ℕ, ◌-◌, ◌*◌, ◌/◌, ◌<◌, Bool, true, false, refl, sym, ap, ◌∙◌, arith}
use Rattle.std.specs.Prelude.{◌==◌, ◌&&◌}
use Rattle.std.proofs.Math.Nat.{mul-div_cancel}
use Rattle.std.proofs.lemmas.Nat.{pow_pos}
use Rattle.std.proofs.lemmas.Bool.{and_parts, eqb-true, false_from_ne_true}
use Rattle.std.proofs.lemmas.Bool.Decides.{nat_tests}
use Rattle.mw_text.specs.declared.address.Addr.{Addr}
use Rattle.mw_text.specs.declared.address.Prefix.{Prefix}
use Rattle.mw_text.specs.Address.{block, prefix_at, same_prefix}
use Rattle.term_arith.proofs.NumberLemmas.{number_high, ids_end_drop}

-- multiples of one number are equal where the factors are
same_multiple : (p q b n : ℕ) → 0 < b → n ≡ q * b → (n == p * b) ≡ (p == n / b)
same_multiple p q b n positive whole =
    let P : ℕ → Bool = λ x. x == p * b in
    let quotient : n / b ≡ q = ap (λ x. x / b) whole ∙ mul-div_cancel q positive in
    by (p == n / b) refl quotient
  where
    by : (c : Bool) → (p == n / b) ≡ c → n / b ≡ q → (n == p * b) ≡ c
    by true e quotient =
        let same : p ≡ n / b = eqb-true p (n / b) e in
        let product : n ≡ p * b = whole ∙ ap (λ x. x * b) (sym quotient ∙ sym same) in
        grind (arith, nat_tests)
    by false e quotient =
        false_from_ne_true (n == p * b) (λ yes.
        let product : n ≡ p * b = eqb-true n (p * b) yes in
        let same : n / b ≡ p = ap (λ x. x / b) product ∙ mul-div_cancel p positive in
        grind (arith, nat_tests))

-- a prefix of that length is that of an address where their first bits agree
pub network_same : (p : Prefix) (d : Addr) (len : ℕ) → same_prefix (prefix_at p.addr len) p ≡ true
    → same_prefix p (prefix_at d len) ≡ (d.0 / block len == p.addr.0 / block len)
network_same p d len network =
    let parts = and_parts (p.addr.0 / block len * block len == p.addr.0) (len == p.len) network in
    let whole : p.addr.0 / block len * block len ≡ p.addr.0 = eqb-true _ _ parts.0 in
    let long : len ≡ p.len = eqb-true _ _ parts.1 in
    let yes : (p.len == len) ≡ true = grind (arith, nat_tests) in
    rw yes (ap (λ b. b && true) (same_multiple (d.0 / block len) (p.addr.0 / block len) (block len) p.addr.0
    (pow_pos (32 - len)) (sym whole))
    ∙ and_true (d.0 / block len == p.addr.0 / block len))
  where
    and_true : (b : Bool) → (b && true) ≡ b
    and_true true = refl
    and_true false = refl

-- one that is not, is that of no address
pub network_other : (p : Prefix) (d : Addr) (len : ℕ) → same_prefix (prefix_at p.addr len) p ≡ false
    → same_prefix p (prefix_at d len) ≡ false
network_other p d len other =
    false_from_ne_true (same_prefix p (prefix_at d len)) (λ yes.
    let parts = and_parts (p.addr.0 == d.0 / block len * block len) (p.len == len) yes in
    let whole : p.addr.0 ≡ d.0 / block len * block len = eqb-true _ _ parts.0 in
    let long : p.len ≡ len = eqb-true _ _ parts.1 in
    let cut : p.addr.0 / block len ≡ d.0 / block len =
    ap (λ x. x / block len) whole ∙ mul-div_cancel (d.0 / block len) (pow_pos (32 - len)) in
    let back : p.addr.0 / block len * block len ≡ p.addr.0 = ap (λ x. x * block len) cut ∙ sym whole in
    let network : same_prefix (prefix_at p.addr len) p ≡ true = both back (sym long) in
    cc)
  where
    both : p.addr.0 / block len * block len ≡ p.addr.0 → len ≡ p.len → same_prefix (prefix_at p.addr len) p ≡ true
    both a b = grind (arith, nat_tests)

pub ruleset high_steps = (number_high, ids_end_drop)
