-- Every address matches `any`.
use Rattle.std.proofs.Common.{◌≡◌, ◌==◌, ℕ, ◌^◌, ◌<◌, List, length, true, ap, ◌∙◌, subst, arith, bit_or}
use Rattle.std.proofs.lemmas.Nat.{le_or_r, or_lt}
use Rattle.term_store.specs.declared.NodeId.{NodeId}
use Rattle.term_store.specs.Terms.{Reading}
use Rattle.term_arith.specs.Bits.{number}
use Rattle.term_arith.proofs.NumberLemmas.{number_below}

-- a number of 32 bits with all bits put in
full_or : (a : ℕ) → a < 2 ^ 32 → bit_or a 4294967295 ≡ 4294967295
full_or a short =
    let most = or_lt 32 a 4294967295 short (omega arith) in
    let least = le_or_r a 4294967295 in
    omega (arith, most, least)

pub any_matches : (w : Reading) (ids : List NodeId) (b : ℕ) → length ids ≡ 32 → b < 2 ^ 32
    → (bit_or (number w ids) 4294967295 == bit_or b 4294967295) ≡ true
any_matches w ids b wide short =
    ap (λ n. n == bit_or b 4294967295) (full_or (number w ids) (subst (λ n. number w ids < 2 ^ n) wide (number_below w ids)))
    ∙ ap (λ n. 4294967295 == n) (full_or b short)
