-- Fields of 33 bits, of which the highest says that there is an address.
use Rattle.std.proofs.Common.{◌≡◌, ℕ, zero, suc, ◌+◌, ◌-◌, ◌*◌, ◌^◌, ◌<◌, ◌≤◌, Bool, true, false, not, List, []}
use Rattle.std.proofs.Common.{◌∷◌, if◌then◌else◌, length, take, get_or, sym, ap, subst, ◌∙◌, refl, arith}
use Rattle.std.proofs.Math.Nat.{pow-succ'}
use Rattle.std.proofs.lemmas.Bool.Decides.{nat_tests}
use Rattle.std.proofs.lemmas.List.{length-take-le}
use Rattle.term_store.specs.declared.NodeId.{NodeId}
use Rattle.term_store.specs.Terms.{Reading, at}
use Rattle.term_arith.specs.Bits.{bit, number, ids_end}
use Rattle.term_arith.proofs.NumberLemmas.{ids_end_at, ids_end_take, number_below}
use Rattle.bgp_shapes.specs.Candidates.{address_or}
use Rattle.bgp_shapes.specs.Messages.{lacks_address}

-- the last of some bits weighs as much as all before it and one more
split_last : (w : Reading) (ids : List NodeId) (k : ℕ) (d : NodeId) → length ids ≡ k + 1 →
    number w ids ≡ number w (take k ids) + 2 ^ k * bit (at w (get_or ids k d))
split_last w [] k d h = omega arith
split_last w (id ∷ []) zero d h = omega arith
split_last w (id ∷ x ∷ xs) zero d h = omega arith
split_last w (id ∷ ids) (suc k) d h =
    let rest = split_last w ids k d (omega arith) in
    let last = bit (at w (get_or ids k d)) in
    let twice : 2 ^ suc k * last ≡ 2 * (2 ^ k * last) = ap (λ p. p * last) (pow-succ' 2 k) ∙ omega arith in
    omega (arith, rest, twice)

low_below : (w : Reading) (ids : List NodeId) → length ids ≡ 33 → number w (take 32 ids) < 2 ^ 32
low_below w ids h =
    let size : length (take 32 ids) ≡ 32 = length-take-le 32 ids (omega (arith, h)) in
    let P : ℕ → Type 0 = λ k. number w (take 32 ids) < 2 ^ k in
    subst P size (number_below w (take 32 ids))

-- the highest bit says whether there is an address. The first half shows which it is
pub address_there : (w : Reading) (ids : List NodeId) (d : NodeId) → length ids ≡ 33 →
    (at w (get_or ids 32 d) ≡ at w (get_or ids 32 d)) × (not (at w (get_or ids 32 d)) ≡ lacks_address (number w ids))
address_there w ids d h = (
  refl,
  by_bit (at w (get_or ids 32 d)) (number w ids) (number w (take 32 ids)) (split_last w ids 32 d h) (low_below w ids h),
)
  where
    by_bit : (b : Bool) (n low : ℕ) → n ≡ low + 2 ^ 32 * bit b → low < 2 ^ 32 → not b ≡ lacks_address n
    by_bit true n low is below = grind (arith, nat_tests)
    by_bit false n low is below = grind (arith, nat_tests)

-- and the others are the address
pub address_low : (w : Reading) (ids : List NodeId) (d : NodeId) → length ids ≡ 33 →
    (at w (get_or ids 32 d) ≡ at w (get_or ids 32 d))
    × (at w (get_or ids 32 d) ≡ true → number w (take 32 ids) ≡ number w ids - 2 ^ 32)
address_low w ids d h = (
  refl,
  by_bit (at w (get_or ids 32 d)) (number w ids) (number w (take 32 ids)) (split_last w ids 32 d h),
)
  where
    by_bit : (b : Bool) (n low : ℕ) → n ≡ low + 2 ^ 32 * bit b → b ≡ true → low ≡ n - 2 ^ 32
    by_bit true n low is there = omega arith
    by_bit false n low is there = cc

-- these are 32 bits
pub low_count : (ids : List NodeId) → length ids ≡ 33 → length (take 32 ids) ≡ 32
low_count ids h = length-take-le 32 ids (omega (arith, h))

pub count_low : (ids : List NodeId) → length ids ≡ 33 → 32 ≡ length (take 32 ids)
count_low ids h = sym (low_count ids h)

-- and stand where all stand
pub low_within : (field ids low : List NodeId) → low ≡ take 32 ids → ids ≡ field → ids_end low ≤ ids_end field
low_within field ids low low_is ids_is =
    subst (λ xs. ids_end low ≤ ids_end xs) ids_is
    (subst (λ xs. ids_end xs ≤ ids_end ids) (sym low_is) (ids_end_take ids 32))

pub ruleset address_steps = (ids_end_at, low_count, count_low, low_within, address_there, address_low)

-- the address where there is one, and else another number
pub address_chosen : (there : Bool) (n low other : ℕ) → not there ≡ lacks_address n →
    (there ≡ true → low ≡ n - 2 ^ 32) → (if there then low else other) ≡ address_or n other
address_chosen true n low other lacks is =
    is refl ∙ ap (λ b. if b then other else n - 2 ^ 32) lacks
address_chosen false n low other lacks is = ap (λ b. if b then other else n - 2 ^ 32) lacks
