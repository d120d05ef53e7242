-- Addresses in a row, one by one.
use Rattle.std.proofs.Common.{◌≡◌, ℕ, zero, suc, ◌+◌, ◌-◌, ◌*◌, ◌<◌, ◌≤◌, Bool, List, [], ◌∷◌, ◌++◌, sym, ap, ◌∙◌}
use Rattle.std.proofs.Common.{arith}
use Rattle.std.proofs.Common.{append_assoc}
use Rattle.std.proofs.lemmas.List.{append-nil}
use Rattle.mw_text.specs.declared.address.Addr.{Addr}
use Rattle.failed_links.specs.Rows.{number_from}
use Rattle.bgp_variables.specs.Environments.{addresses_from}

first : (n : ℕ) (v : ℕ → Bool) (at : ℕ) → 0 < n →
    addresses_from n v at ≡ record { 0 = number_from v at 32 } ∷ addresses_from (n - 1) v (at + 32)
unfolding addresses_from
first zero v at some = absurd (omega (arith, some))
first (suc n) v at some =
    let less : n ≡ suc n - 1 = omega arith in
    ap (λ k. record { 0 = number_from v at 32 } ∷ addresses_from k v (at + 32)) less

pub addresses_more : (count i from : ℕ) (v : ℕ → Bool) (made : List Addr) → i < count →
    (made ++ record { 0 = number_from v (from + 32 * i) 32 } ∷ [])
    ++ addresses_from (count - (i + 1)) v (from + 32 * (i + 1))
    ≡ made ++ addresses_from (count - i) v (from + 32 * i)
addresses_more count i from v made below =
    let one : Addr = record { 0 = number_from v (from + 32 * i) 32 } in
    let place : from + 32 * (i + 1) ≡ from + 32 * i + 32 = omega arith in
    let left : count - (i + 1) ≡ count - i - 1 = omega arith in
    append_assoc made (one ∷ []) (addresses_from (count - (i + 1)) v (from + 32 * (i + 1)))
    ∙ ap (λ k. made ++ one ∷ addresses_from (count - (i + 1)) v k) place
    ∙ ap (λ k. made ++ one ∷ addresses_from k v (from + 32 * i + 32)) left
    ∙ sym (ap (λ xs. made ++ xs) (first (count - i) v (from + 32 * i) (omega (arith, below))))

pub addresses_none : (count i at : ℕ) (v : ℕ → Bool) (made : List Addr) → count ≤ i →
    made ++ addresses_from (count - i) v at ≡ made
unfolding addresses_from
addresses_none count i at v made all =
    let none : count - i ≡ 0 = omega (arith, all) in
    ap (λ k. made ++ addresses_from k v at) none ∙ append-nil made
