-- The level of the second literal that is kept.
use Rattle.std.proofs.Common.{◌≡◌, ℕ, zero, suc, ◌+◌, ◌≤◌, ◌⊎◌, List, [], ◌∷◌, ◌++◌, length, slice_get, Some, inl}
use Rattle.std.proofs.Common.{inr, refl, sym, ap, ◌∙◌, subst, arith, length-append}
use Rattle.resolution_check.specs.declared.log.Lit.{Lit}
use Rattle.resolution_check.specs.Clauses.{opposite}
use Rattle.resolution_check.proofs.Literals.{opposite_twice}
use Rattle.conflict_analysis.specs.Lessons.{IsSecond}

pub back_none : (steps : List Lit) (levels : List ℕ) → IsSecond steps levels [] 0
back_none steps levels = record { none = λ h. refl; second = λ l h. absurd (cc) }

-- the second literal of a longer list
second_kept : (kept : List Lit) (p l : Lit) → 2 ≤ length kept → slice_get (kept ++ p ∷ []) 1 ≡ Some l
    → slice_get kept 1 ≡ Some l
second_kept [] p l h e = absurd (omega arith)
second_kept (k ∷ []) p l h e = absurd (omega arith)
second_kept (k ∷ m ∷ ks) p l h e = e

second_new : (kept : List Lit) (p l : Lit) → length kept ≡ 1 → slice_get (kept ++ p ∷ []) 1 ≡ Some l → l ≡ p
second_new [] p l h e = absurd (omega arith)
second_new (k ∷ []) p l h e = cc
second_new (k ∷ m ∷ ks) p l h e = absurd (omega arith)

no_second : (kept : List Lit) (p l : Lit) → length kept ≡ 0 → slice_get (kept ++ p ∷ []) 1 ≡ Some l → ⊥
no_second [] p l h e = absurd (cc)
no_second (k ∷ ks) p l h e = absurd (omega arith)

-- one literal more, where it is not the second
pub back_other : (steps : List Lit) (levels : List ℕ) (kept more : List Lit) (back at : ℕ) (t : Lit)
    → IsSecond steps levels kept back → (more ≡ kept) ⊎ (more ≡ kept ++ opposite t ∷ [])
    → (length kept ≡ 1 → length more ≡ 2 → ⊥) → IsSecond steps levels more back
back_other steps levels kept more back at t b (inl e) not_second =
    subst (λ (ls : List Lit). IsSecond steps levels ls back) (sym e) b
back_other steps levels kept more back at t b (inr e) not_second =
    let l : length (kept ++ opposite t ∷ []) ≡ length kept + 1 = length-append kept (opposite t ∷ []) in
    let n : length more ≡ length kept + 1 = ap length e ∙ l in
    subst (λ (ls : List Lit). IsSecond steps levels ls back) (sym e) (record {
      none = λ h. b.none (omega arith);
      second = λ m h. elim (few (length kept)) [
        | inl z ↦ absurd (no_second kept (opposite t) m z h)
        | inr c ↦ elim c [
          | inl z ↦ absurd (not_second z (omega arith))
          | inr z ↦ b.second m (second_kept kept (opposite t) m z h)
        ]
      ];
    })
  where
    few : (n : ℕ) → (n ≡ 0) ⊎ ((n ≡ 1) ⊎ (2 ≤ n))
    few zero = inl refl
    few (suc zero) = inr (inl refl)
    few (suc (suc n)) = inr (inr (omega arith))

-- the second literal
pub back_second : (steps : List Lit) (levels : List ℕ) (kept more : List Lit) (old back at : ℕ) (t : Lit)
    → slice_get steps at ≡ Some t → slice_get levels at ≡ Some back
    → (more ≡ kept) ⊎ (more ≡ kept ++ opposite t ∷ []) → length kept ≡ 1 → length more ≡ 2
    → IsSecond steps levels more back
back_second steps levels kept more old back at t there level (inl e) one two =
    let l : length more ≡ length kept = ap length e in absurd (omega arith)
back_second steps levels kept more old back at t there level (inr e) one two = record {
  none = λ h. absurd (omega arith);
  second = λ m h.
      (let s : m ≡ opposite t = second_new kept (opposite t) m one (subst (λ ls. slice_get ls 1 ≡ Some m) e h) in
      record { at = at; there = there ∙ ap Some (sym (ap opposite s ∙ opposite_twice t)); own = level });
}
