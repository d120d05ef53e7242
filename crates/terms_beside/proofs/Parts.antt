-- Values of the variables of two stores, one after another.
use Rattle.std.proofs.Common.{◌≡◌, ℕ, zero, suc, ◌+◌, ◌<◌, ◌≤◌, Bool, false, List, [], ◌∷◌, ◌++◌, drop, take, length}
use Rattle.std.proofs.Common.{refl, sym, ap, ◌∙◌, arith}
use Rattle.std.proofs.lemmas.List.{get_or-drop, get_or-take}
use Rattle.term_store.specs.Terms.{Agrees, Reading, Store, truth}
use Rattle.term_arith.specs.Bits.{variables}
use Rattle.terms_beside.specs.Beside.{exactly, first_part, second_part}

variables_at : (w : Reading) (first count k : ℕ) → k < count →
    truth (variables w first count) k ≡ w.variable (first + k)
variables_at w first zero k less = absurd (omega (arith, less))
variables_at w first (suc count) zero less = ap w.variable (omega arith)
variables_at w first (suc count) (suc k) less =
    variables_at w (first + 1) count k (omega (arith, less)) ∙ ap w.variable (omega arith)

-- the first part says what the variables of the first store say
pub first_agrees : (w : Reading) (one : Store) (valuation : List Bool) (all : ℕ) → one.vars ≤ all →
    Agrees w valuation all → Agrees w (first_part one valuation) one.vars
first_agrees w one valuation all fits agrees k less =
    agrees k (omega (arith, less, fits)) ∙ sym (get_or-take one.vars valuation k false less)

-- and the second what those of the second say
pub second_agrees : (w u : Reading) (one other : Store) (valuation : List Bool) (all : ℕ) →
    all ≡ one.vars + other.vars → Agrees w valuation all →
    u.variable ≡ truth (variables w one.vars other.vars) → Agrees u (second_part one other valuation) other.vars
second_agrees w u one other valuation all fits agrees same k less =
    ap (λ f. f k) same
    ∙ variables_at w one.vars other.vars k less
    ∙ agrees (one.vars + k) (omega (arith, less, fits))
    ∙ sym (get_or-drop one.vars valuation k false)
    ∙ sym (get_or-take other.vars (drop one.vars valuation) k false less)

-- ---- values that are put together

pub length-exactly : (count : ℕ) (values : List Bool) → length (exactly count values) ≡ count
length-exactly zero values = refl
length-exactly (suc count) [] = ap suc (length-exactly count [])
length-exactly (suc count) (b ∷ values) = ap suc (length-exactly count values)

exactly_at : (count : ℕ) (values : List Bool) (k : ℕ) → k < count → truth (exactly count values) k ≡ truth values k
exactly_at zero values k less = absurd (omega (arith, less))
exactly_at (suc count) [] zero less = refl
exactly_at (suc count) [] (suc k) less = exactly_at count [] k (omega (arith, less))
exactly_at (suc count) (b ∷ values) zero less = refl
exactly_at (suc count) (b ∷ values) (suc k) less = exactly_at count values k (omega (arith, less))

pub exactly_agrees : (w : Reading) (count : ℕ) (values : List Bool) → Agrees w (exactly count values) count →
    Agrees w values count
exactly_agrees w count values agrees k less = agrees k less ∙ exactly_at count values k less

take_front : (xs ys : List Bool) (n : ℕ) → length xs ≡ n → take n (xs ++ ys) ≡ xs
take_front [] ys zero same = refl
take_front [] ys (suc n) same = absurd (omega (arith, same))
take_front (x ∷ xs) ys zero same = absurd (omega (arith, same))
take_front (x ∷ xs) ys (suc n) same = ap (λ zs. x ∷ zs) (take_front xs ys n (omega (arith, same)))

drop_front : (xs ys : List Bool) (n : ℕ) → length xs ≡ n → drop n (xs ++ ys) ≡ ys
drop_front [] ys zero same = refl
drop_front [] ys (suc n) same = absurd (omega (arith, same))
drop_front (x ∷ xs) ys zero same = absurd (omega (arith, same))
drop_front (x ∷ xs) ys (suc n) same = drop_front xs ys n (omega (arith, same))

all_of : (ys : List Bool) (n : ℕ) → length ys ≡ n → take n ys ≡ ys
all_of [] zero same = refl
all_of [] (suc n) same = absurd (omega (arith, same))
all_of (y ∷ ys) zero same = absurd (omega (arith, same))
all_of (y ∷ ys) (suc n) same = ap (λ zs. y ∷ zs) (all_of ys n (omega (arith, same)))

pub first_is : (one : Store) (xs ys : List Bool) → length xs ≡ one.vars → first_part one (xs ++ ys) ≡ xs
first_is one xs ys same = take_front xs ys one.vars same

pub second_is : (one other : Store) (xs ys : List Bool) → length xs ≡ one.vars → length ys ≡ other.vars →
    second_part one other (xs ++ ys) ≡ ys
second_is one other xs ys same too =
    ap (take other.vars) (drop_front xs ys one.vars same) ∙ all_of ys other.vars too
