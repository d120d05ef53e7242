-- Marks of routers, and how many are set.
use Rattle.std.proofs.Common.{◌≡◌, ℕ, zero, suc, ◌<◌, ◌≤◌, Bool, true, false, List, [], ◌∷◌, length, map}
use Rattle.std.proofs.Common.{◌⊎◌, inl, inr, Some, refl, ap, arith, ◌∙◌}
use Rattle.std.specs.Prelude.{slice_get}
use Rattle.mw_text.specs.Members.{count}
use Rattle.walk_def.specs.Marks.{known}

-- what a mark says of the item at its place
pub known_mapped : {A : Type 0} (test : A → Bool) (xs : List A) (k : ℕ) → known (map test xs) k ≡ true →
    (x : A) × (slice_get xs k ≡ Some x) × (test x ≡ true)
known_mapped test [] k h = cc
known_mapped test (x ∷ xs) zero h = (x, refl, h)
known_mapped test (x ∷ xs) (suc k) h = known_mapped test xs k h

pub mapped_known : {A : Type 0} (test : A → Bool) (xs : List A) (k : ℕ) (x : A) → slice_get xs k ≡ Some x →
    test x ≡ true → known (map test xs) k ≡ true
mapped_known test [] k x found h = cc
mapped_known test (y ∷ ys) zero x found h = let same : y ≡ x = cc in ap test same ∙ h
mapped_known test (y ∷ ys) (suc k) x found h = mapped_known test ys k x found h

-- each mark of the first is one of the second
abbrev pub Below : List Bool → List Bool → Type 0
Below xs ys = (k : ℕ) → known xs k ≡ true → known ys k ≡ true

-- marks that others are below are the same marks, or more
one_more : (x y : Bool) (xs ys : List Bool) → (x ≡ true → y ≡ true) → (xs ≡ ys) ⊎ (count xs < count ys) →
    (x ∷ xs ≡ y ∷ ys) ⊎ (count (x ∷ xs) < count (y ∷ ys))
one_more true true xs ys below (inl same) = inl (ap (λ zs. true ∷ zs) same)
one_more true true xs ys below (inr less) = inr (omega arith)
one_more true false xs ys below rest = let both = below refl in cc
one_more false true xs ys below (inl same) = let counts : count xs ≡ count ys = ap count same in inr (omega arith)
one_more false true xs ys below (inr less) = inr (omega arith)
one_more false false xs ys below (inl same) = inl (ap (λ zs. false ∷ zs) same)
one_more false false xs ys below (inr less) = inr (omega (arith, less))

pub same_or_more : (xs ys : List Bool) → length xs ≡ length ys → Below xs ys → (xs ≡ ys) ⊎ (count xs < count ys)
same_or_more [] [] long below = inl refl
same_or_more [] (y ∷ ys) long below = absurd (omega arith)
same_or_more (x ∷ xs) [] long below = absurd (omega arith)
same_or_more (x ∷ xs) (y ∷ ys) long below =
    one_more x y xs ys (below zero) (same_or_more xs ys (omega arith) (λ k. below (suc k)))
