-- Numbers ascend where each is less than the next.
use Rattle.std.proofs.Common.{◌≡◌, ℕ, zero, suc, ◌+◌, ◌<◌, ◌≤◌, ◌&&◌, Bool, true, false, List, [], ◌∷◌, length, get_or, refl, sym}
use Rattle.std.proofs.Common.{◌-◌, ◌⊎◌, arith, inl, inr, subst}
use Rattle.std.specs.Prelude.{nat_lt}
use Rattle.std.specs.List.{list_all}
use Rattle.std.proofs.lemmas.Bool.{and_from, and_right, cases_eq, and_parts, lt-ltb, ltb-true}
use Rattle.net_parts.specs.World.{ascends}

-- what is less than a number that is less than all others is less than these
less_still : (x y : ℕ) (rest : List ℕ) → x < y → list_all (nat_lt y) rest ≡ true → list_all (nat_lt x) rest ≡ true
less_still x y [] h all = refl
less_still x y (z ∷ rest) h all =
    let both = and_parts (nat_lt y z) (list_all (nat_lt y) rest) all in
    let below : y < z = ltb-true y z both.0 in
    and_from (nat_lt x z) (list_all (nat_lt x) rest) (lt-ltb x z (omega arith)) (less_still x y rest h both.1)

up_more : (x y : ℕ) (rest : List ℕ) → x < y → ascends (y ∷ rest) ≡ true → ascends (x ∷ y ∷ rest) ≡ true
up_more x y rest h up =
    let both = and_parts (list_all (nat_lt y) rest) (ascends rest) up in
    and_from (list_all (nat_lt x) (y ∷ rest)) (ascends (y ∷ rest))
    (and_from (nat_lt x y) (list_all (nat_lt x) rest) (lt-ltb x y h) (less_still x y rest h both.0)) up

pub up_by_neighbours : (xs : List ℕ) → ((k : ℕ) → k + 1 < length xs → get_or xs k 0 < get_or xs (k + 1) 0) →
    ascends xs ≡ true
up_by_neighbours [] each = refl
up_by_neighbours (x ∷ []) each = refl
up_by_neighbours (x ∷ y ∷ rest) each =
    up_more x y rest (each 0 (omega arith))
    (up_by_neighbours (y ∷ rest) (λ k h.
    let e : suc k + 1 ≡ suc (k + 1) = omega arith in
    let here : get_or (x ∷ y ∷ rest) (suc k) 0 < get_or (x ∷ y ∷ rest) (suc k + 1) 0 = each (suc k) (omega arith) in
    rw e at here))

not_less : (x y : ℕ) → y ≤ x → nat_lt x y ≡ false
not_less x y h = by (nat_lt x y) refl where
  by : (b : Bool) → nat_lt x y ≡ b → nat_lt x y ≡ false
  by true e = absurd (omega (arith, ltb-true x y e))
  by false e = e

pub not_up : (xs : List ℕ) (k : ℕ) → k + 1 < length xs → get_or xs (k + 1) 0 ≤ get_or xs k 0 → ascends xs ≡ false
not_up [] k h le = absurd (omega arith)
not_up (x ∷ []) k h le = absurd (omega arith)
not_up (x ∷ y ∷ rest) zero h le = rw (not_less x y le) refl
not_up (x ∷ y ∷ rest) (suc k) h le =
    let e : suc k + 1 ≡ suc (k + 1) = omega arith in
    and_right (list_all (nat_lt x) (y ∷ rest)) (ascends (y ∷ rest)) (not_up (y ∷ rest) k (omega arith) (rw e at le))

-- one neighbour more
pub neighbours_more : (xs : List ℕ) (at : ℕ) → 1 ≤ at →
    ((k : ℕ) → k + 1 < at → get_or xs k 0 < get_or xs (k + 1) 0) → get_or xs (at - 1) 0 < get_or xs at 0 →
    (k : ℕ) → k + 1 < at + 1 → get_or xs k 0 < get_or xs (k + 1) 0
neighbours_more xs at low before here k h = by (cases_eq (k + 1) at) where
  by : (k + 1 ≡ at) ⊎ (k + 1 ≡ at → ⊥) → get_or xs k 0 < get_or xs (k + 1) 0
  by (inr apart) = before k (omega (arith, apart))
  by (inl last) =
      let first : at - 1 ≡ k = omega arith in
      let there : get_or xs k 0 < get_or xs at 0 = subst (λ j. get_or xs j 0 < get_or xs at 0) first here in
      subst (λ j. get_or xs k 0 < get_or xs j 0) (sym last) there
