-- The bits of a network address.
use Rattle.std.proofs.Common.{◌≡◌, ℕ, ◌+◌, ◌-◌, ◌*◌, ◌/◌, ◌^◌, ◌<◌, ◌≤◌, max, List, [], ◌∷◌, ◌++◌, drop, length, refl}
use Rattle.std.proofs.Common.{sym, ap, ◌∙◌, arith, suc}
use Rattle.std.proofs.Math.Nat.{pow-suc}
use Rattle.std.proofs.lemmas.List.{length-append, length-drop}
use Rattle.term_store.specs.declared.NodeId.{NodeId}
use Rattle.term_store.specs.Terms.{Reading, at}
use Rattle.term_arith.specs.Bits.{bit, number, ids_end}
use Rattle.term_arith.proofs.NumberLemmas.{number_high, ids_end_drop, bit_small}

-- a number whose low bits are all 0
pub number-zero_low : (w : Reading) (low high : List NodeId) → number w low ≡ 0
    → number w (low ++ high) ≡ number w high * 2 ^ length low
number-zero_low w [] high h = omega arith
number-zero_low w (id ∷ low) high h =
    let rest = number-zero_low w low high (omega arith) in
    let none : bit (at w id) ≡ 0 = omega arith in
    omega (arith, rest, none, ap (λ p. number w high * p) (pow-suc 2 (length low)))

pub ids_end-append : (a b : List NodeId) → ids_end (a ++ b) ≡ max (ids_end a) (ids_end b)
ids_end-append [] b = omega arith
ids_end-append (x ∷ a) b = let rest = ids_end-append a b in omega arith

-- the high bits of an address over as many low bits of 0
pub network_number : (w : Reading) (low ids : List NodeId) (k : ℕ) → number w low ≡ 0 → length low ≡ k
    → number w (low ++ drop k ids) ≡ number w ids / 2 ^ k * 2 ^ k
network_number w low ids k h long =
    number-zero_low w low (drop k ids) h ∙ ap (λ n. number w (drop k ids) * 2 ^ n) long
    ∙ ap (λ q. q * 2 ^ k) (number_high w ids k)

-- where joined numbers of nodes end
pub ruleset joined_ends = (ids_end-append)

pub ruleset network_steps = (network_number, ids_end-append, ids_end_drop, length-append, length-drop)
