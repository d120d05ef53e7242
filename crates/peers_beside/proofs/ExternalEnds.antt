-- The items of a list that pass a test, and the places where they stand in it.
use Rattle.std.proofs.Common.{◌≡◌, ℕ, zero, suc, Bool, true, false, List, [], ◌∷◌, length, filter, take}
use Rattle.std.proofs.Common.{Some, refl, sym, ap, ◌∙◌, slice_get}
use Rattle.std.specs.Prelude.{if◌then◌else◌}
use Rattle.std.proofs.lemmas.Option.{same_Some}

-- one that is kept stands at a place before which as many pass as stand before it among those that are kept
pub kept_from : {X : Type 0} (p : X → Bool) (xs : List X) (i : ℕ) (x : X) → slice_get (filter p xs) i ≡ Some x →
    (at : ℕ) × (slice_get xs at ≡ Some x) × (p x ≡ true) × (length (filter p (take at xs)) ≡ i)
kept_from p [] i x there = absurd cc
kept_from {X} p (y ∷ ys) i x there = by (p y) refl i there (kept_from p ys) where
  by : (b : Bool) → p y ≡ b → (i : ℕ) → slice_get (if b then y ∷ filter p ys else filter p ys) i ≡ Some x →
      ((i : ℕ) (x : X) → slice_get (filter p ys) i ≡ Some x →
      (at : ℕ) × (slice_get ys at ≡ Some x) × (p x ≡ true) × (length (filter p (take at ys)) ≡ i)) →
      (at : ℕ) × (slice_get (y ∷ ys) at ≡ Some x) × (p x ≡ true) × (length (filter p (take at (y ∷ ys))) ≡ i)
  by true passes zero there rest = (0, there, ap p (sym (same_Some y x there)) ∙ passes, refl)
  by true passes (suc i) there rest =
      let deeper = rest i x there in (
        suc deeper.0,
        deeper.1,
        deeper.2,
        ap (λ b. length (if b then y ∷ filter p (take deeper.0 ys) else filter p (take deeper.0 ys))) passes
            ∙ ap suc deeper.3,
      )
  by false fails i there rest =
      let deeper = rest i x there in (
        suc deeper.0,
        deeper.1,
        deeper.2,
        ap (λ b. length (if b then y ∷ filter p (take deeper.0 ys) else filter p (take deeper.0 ys))) fails ∙ deeper.3,
      )

-- and one that passes is kept there
pub kept_there : {X : Type 0} (p : X → Bool) (xs : List X) (at : ℕ) (x : X) → slice_get xs at ≡ Some x → p x ≡ true →
    slice_get (filter p xs) (length (filter p (take at xs))) ≡ Some x
kept_there p [] at x there passes = absurd cc
kept_there {X} p (y ∷ ys) zero x there passes =
    ap (λ b. slice_get (if b then y ∷ filter p ys else filter p ys) 0) (ap p (same_Some y x there) ∙ passes) ∙ there
kept_there {X} p (y ∷ ys) (suc at) x there passes = by (p y) (kept_there p ys at x there passes) where
  by : (b : Bool) → slice_get (filter p ys) (length (filter p (take at ys))) ≡ Some x →
      slice_get (if b then y ∷ filter p ys else filter p ys)
      (length (if b then y ∷ filter p (take at ys) else filter p (take at ys))) ≡ Some x
  by true rest = rest
  by false rest = rest
