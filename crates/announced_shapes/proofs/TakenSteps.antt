-- The marked values of a list, from a place on.
use Rattle.std.proofs.Common.{◌≡◌, ℕ, ◌+◌, ◌<◌, ◌/◌, ◌%◌, Bool, true, false, List, [], ◌∷◌, ◌++◌, length, drop, get_or}
use Rattle.std.proofs.Common.{refl, sym, ap, ◌∙◌, append_assoc}
use Rattle.std.specs.Prelude.{◌==◌, if◌then◌else◌}
use Rattle.std.proofs.lemmas.Bool.{eq-eqb, eqb-true}
use Rattle.std.proofs.lemmas.List.{drop_more}
use Rattle.announced_shapes.specs.Paths.{taken}
use Rattle.announced_shapes.specs.Sets.{marks_of}

-- the values behind a place that a set marks
abbrev pub taken_from : List ℕ → ℕ → ℕ → List ℕ
taken_from ts k set = taken (drop k ts) (marks_of (length (drop k ts)) set)

unequal : (n : ℕ) → (n ≡ 1 → ⊥) → (n == 1) ≡ false
unequal n differs = by (n == 1) refl where
  by : (b : Bool) → (n == 1) ≡ b → (n == 1) ≡ false
  by true e = absurd (differs (eqb-true n 1 e))
  by false e = e

here : (ts : List ℕ) (k set : ℕ) → k < length ts →
    taken_from ts k set ≡ (if set % 2 == 1 then get_or ts k 0 ∷ taken_from ts (k + 1) (set / 2)
    else taken_from ts (k + 1) (set / 2))
here ts k set within = ap (λ xs. taken xs (marks_of (length xs) set)) (drop_more ts k 0 within)

pub taken_marked : (ts made : List ℕ) (k set : ℕ) → k < length ts → set % 2 ≡ 1 →
    (made ++ get_or ts k 0 ∷ []) ++ taken_from ts (k + 1) (set / 2) ≡ made ++ taken_from ts k set
taken_marked ts made k set within mark =
    append_assoc made (get_or ts k 0 ∷ []) (taken_from ts (k + 1) (set / 2))
    ∙ sym (ap (λ xs. made ++ xs) (here ts k set within
    ∙ ap (λ b. if b then get_or ts k 0 ∷ taken_from ts (k + 1) (set / 2) else taken_from ts (k + 1) (set / 2))
    (eq-eqb (set % 2) 1 mark)))

pub taken_unmarked : (ts made : List ℕ) (k set : ℕ) → k < length ts → (set % 2 ≡ 1 → ⊥) →
    made ++ taken_from ts (k + 1) (set / 2) ≡ made ++ taken_from ts k set
taken_unmarked ts made k set within mark =
    sym (ap (λ xs. made ++ xs) (here ts k set within
    ∙ ap (λ b. if b then get_or ts k 0 ∷ taken_from ts (k + 1) (set / 2) else taken_from ts (k + 1) (set / 2))
    (unequal (set % 2) mark)))
