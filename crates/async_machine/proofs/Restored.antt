-- What is written back is as it was.
use Rattle.std.proofs.Common.{◌≡◌, ℕ, zero, suc, List, [], ◌∷◌, Some, refl, ap}
use Rattle.std.specs.Prelude.{slice_get, slice_set}

pub restored : {A : Type 0} (xs : List A) (k : ℕ) (y old : A) → slice_get xs k ≡ Some old →
    slice_set (slice_set xs k y) k old ≡ xs
restored [] k y old e = cc
restored (x ∷ xs) zero y old e = let same : x ≡ old = cc in rw same refl
restored (x ∷ xs) (suc k) y old e = ap (λ l. x ∷ l) (restored xs k y old e)
