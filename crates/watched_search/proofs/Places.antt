-- Lists by their places.
use Rattle.std.proofs.Common.{◌≡◌, ◌≢◌, ℕ, Bool, true, zero, suc, ◌<◌, List, [], ◌∷◌, ◌++◌, length, take}
use Rattle.std.proofs.Common.{min, set, slice_get, Some, refl, sym, ap, ◌∙◌, arith}
use Rattle.std.specs.List.{list_all}
use Rattle.std.proofs.lemmas.Bool.{and_parts, and_from}
use Rattle.std.proofs.lemmas.Option.{slice_get-get_or}
use Rattle.std.proofs.lemmas.List.{get_or-set_same, length-set, take_min}

pub slice_get-set_same : {X : Type 0} (xs : List X) (i : ℕ) (y : X) → i < length xs → slice_get (set xs i y) i ≡ Some y
slice_get-set_same xs i y h =
    let same = length-set xs i y in
    slice_get-get_or (set xs i y) i y (omega arith) ∙ ap Some (get_or-set_same xs i y y h)

pub slice_get-set_other : {X : Type 0} (xs : List X) (i j : ℕ) (y : X) → j ≢ i
    → slice_get (set xs i y) j ≡ slice_get xs j
slice_get-set_other [] i j y h = refl
slice_get-set_other (x ∷ xs) zero zero y h = absurd (h refl)
slice_get-set_other (x ∷ xs) zero (suc j) y h = refl
slice_get-set_other (x ∷ xs) (suc i) zero y h = refl
slice_get-set_other (x ∷ xs) (suc i) (suc j) y h = slice_get-set_other xs i j y (λ e. h (ap suc e))

-- the item behind the first ones
pub slice_get-seam : {X : Type 0} (xs : List X) (x : X) (ys : List X) → slice_get (xs ++ x ∷ ys) (length xs) ≡ Some x
slice_get-seam [] x ys = refl
slice_get-seam (z ∷ xs) x ys = slice_get-seam xs x ys

-- an item among the first ones
pub slice_get-take : {X : Type 0} (n : ℕ) (xs : List X) (i : ℕ) (x : X) → slice_get (take n xs) i ≡ Some x
    → slice_get xs i ≡ Some x
slice_get-take zero xs i x h = absurd cc
slice_get-take (suc n) [] i x h = h
slice_get-take (suc n) (z ∷ xs) zero x h = h
slice_get-take (suc n) (z ∷ xs) (suc i) x h = slice_get-take n xs i x h

-- a limit past the end is as good as the end
pub take-same : {X : Type 0} (m n : ℕ) (xs : List X) → min m (length xs) ≡ min n (length xs) → take m xs ≡ take n xs
take-same m n xs h = sym (take_min m xs) ∙ ap (λ k. take k xs) h ∙ take_min n xs

-- ---- tests of which all items are true

pub all_set : {X : Type 0} (p : X → Bool) (xs : List X) (i : ℕ) (y : X) → list_all p xs ≡ true → p y ≡ true
    → list_all p (set xs i y) ≡ true
all_set p [] i y all h = refl
all_set p (z ∷ xs) zero y all h = and_from _ _ h (and_parts _ _ all).1
all_set p (z ∷ xs) (suc i) y all h = and_from _ _ (and_parts _ _ all).0 (all_set p xs i y (and_parts _ _ all).1 h)

pub all_push : {X : Type 0} (p : X → Bool) (xs : List X) (x : X) → list_all p xs ≡ true → p x ≡ true
    → list_all p (xs ++ x ∷ []) ≡ true
all_push p [] x all h = and_from _ _ h refl
all_push p (z ∷ xs) x all h = and_from _ _ (and_parts _ _ all).0 (all_push p xs x (and_parts _ _ all).1 h)
