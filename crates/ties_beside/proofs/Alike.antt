-- Of two values that are alike each is true where the other is; and tests of all that a list has.
use Rattle.std.proofs.Common.{◌≡◌, ◌<◌, ℕ, zero, suc, Bool, true, false}
use Rattle.std.proofs.Common.{not, List, [], ◌∷◌, Contains, arith, length, refl, subst}
use Rattle.std.specs.Prelude.{slice_index_or}
use Rattle.std.specs.List.{list_all}
use Rattle.std.proofs.lemmas.Bool.{and_from, and_parts, false≢true}
use Rattle.term_store.specs.Terms.{differ}

pub alike_on : (b c : Bool) → not (differ b c) ≡ true → b ≡ true → c ≡ true
alike_on true true same holds = refl
alike_on true false same holds = absurd (false≢true same)
alike_on false c same holds = absurd (false≢true holds)

pub alike_back : (b c : Bool) → not (differ b c) ≡ true → c ≡ true → b ≡ true
alike_back true c same holds = refl
alike_back false true same holds = absurd (false≢true same)
alike_back false false same holds = absurd (false≢true holds)

pub are_alike : (b c : Bool) → (b ≡ true → c ≡ true) → (c ≡ true → b ≡ true) → not (differ b c) ≡ true
are_alike true true on back = refl
are_alike true false on back = absurd (false≢true (on refl))
are_alike false true on back = absurd (false≢true (back refl))
are_alike false false on back = refl

at_place : {X : Type 0} (f : X → Bool) (xs : List X) (x : X) (k : ℕ) → list_all f xs ≡ true → k < length xs →
    slice_index_or xs k x ≡ x → f x ≡ true
at_place f [] x k all less is = absurd (omega (arith, less))
at_place f (y ∷ ys) x zero all less is = subst (λ z. f z ≡ true) is (and_parts _ _ all).0
at_place f (y ∷ ys) x (suc k) all less is = at_place f ys x k (and_parts _ _ all).1 (omega (arith, less)) is

pub each_of : {X : Type 0} (f : X → Bool) (xs : List X) → list_all f xs ≡ true → (x : X) → Contains xs x → f x ≡ true
each_of f xs all x there = at_place f xs x there.0 all there.1 there.2

pub all_from : {X : Type 0} (f : X → Bool) (xs : List X) → ((x : X) → Contains xs x → f x ≡ true) →
    list_all f xs ≡ true
all_from f [] each = refl
all_from f (x ∷ xs) each =
    and_from _ _ (each x (0, omega arith, refl))
    (all_from f xs (λ y there. let less = there.1 in each y (suc there.0, omega (arith, less), there.2)))
