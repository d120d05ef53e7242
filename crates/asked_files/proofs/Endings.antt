-- What is taken and told of answers one after another, and faults of them.
use Rattle.std.proofs.Common.{◌≡◌, ℕ, List, [], ◌∷◌, ◌++◌, Option, Some, refl, subst, inl, inr}
use Rattle.std.specs.Prelude.{◌⊎◌}
use Rattle.std.specs.List.{last_or}
use Rattle.mw_outside.specs.Faults.{Rose}

-- of one more it is the last
pub last_more : {A : Type 0} (o : Option A) (xs : List A) (x : A) → last_or o (xs ++ x ∷ []) ≡ Some x
last_more o [] x = refl
last_more o (y ∷ ys) x = last_more (Some y) ys x

-- a fault of what came after no fault is one since the beginning
pub rose_since : (a b c d e f : ℕ) → b ≡ a → e ≡ d → Rose b c ⊎ Rose e f → Rose a c ⊎ Rose d f
rose_since a b c d e f same too (inl rose) = let R : ℕ → Type 0 = λ n. Rose n c in inl (subst R same rose)
rose_since a b c d e f same too (inr rose) = let R : ℕ → Type 0 = λ n. Rose n f in inr (subst R too rose)
