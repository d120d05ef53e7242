-- Variables of clauses, and tests by a variable, for what follows a trail back.
use Rattle.std.proofs.Common.{◌≡◌, ℕ, ◌==◌, Bool, true, false, cond, ◌&&◌, List}
use Rattle.std.proofs.Common.{[], ◌∷◌, ◌++◌, Some, inl, inr, refl, sym, ap, ◌∙◌}
use Rattle.std.proofs.lemmas.Bool.{not-true, not_from_false, cases_Bool, eqb-true, eq-eqb, false≢true, true≢false}
use Rattle.std.proofs.lemmas.Bool.{or_cases, or_left, or_right, and_parts, and_from, or_parts, or_from}
use Rattle.std.specs.Bool.{beq}
use Rattle.std.proofs.lemmas.List.Folds.{list_any-append}
use Rattle.resolution_check.specs.declared.log.Lit.{Lit}
use Rattle.resolution_check.specs.Clauses.{is_same, has}
use Rattle.resolution_check.specs.Earned.{has_var, vars_differ}
use Rattle.resolution_check.specs.Trails.{is_value}
use Rattle.resolution_check.proofs.Literals.{same_lit, same_refl}

pub same_bool : (a b : Bool) → (a ≡ true → b ≡ true) → (b ≡ true → a ≡ true) → a ≡ b
same_bool true b there back = sym (there refl)
same_bool false true there back = back refl
same_bool false false there back = refl

pub other_way : (m n : ℕ) → (m == n) ≡ false → (n == m) ≡ false
other_way m n h =
    elim (cases_Bool (n == m)) [
      | inl e ↦ absurd (false≢true (sym h ∙ eq-eqb m n (sym (eqb-true n m e))))
      | inr other ↦ other
    ]

pub itself : (b : Bool) → is_value (Some b) b ≡ true
itself true = refl
itself false = refl

-- ---- a literal's variable

pub has_var_from : (c : List Lit) (l : Lit) → has c l ≡ true → has_var c l.var ≡ true
has_var_from [] l h = h
has_var_from (k ∷ c) l h = elim (or_cases _ _ h) [
  | inl here ↦ or_left _ _ (eq-eqb k.var l.var (ap (λ (m : Lit). m.var) (sym (same_lit l k here))))
  | inr later ↦ or_right (k.var == l.var) _ (has_var_from c l later)
]

pub of_var : (c : List Lit) (v : ℕ) → has_var c v ≡ true → (k : Lit) × (has c k ≡ true) × (k.var ≡ v)
of_var [] v h = absurd (false≢true h)
of_var (k ∷ c) v h = elim (or_cases _ _ h) [
  | inl here ↦ (k, or_left _ _ (same_refl k), eqb-true k.var v here)
  | inr later ↦ let found = of_var c v later in (found.0, or_right (is_same found.0 k) _ found.1, found.2)
]

pub no_var : (c : List Lit) (v : ℕ) → ((l : Lit) → has c l ≡ true → l.var ≡ v → ⊥) → has_var c v ≡ false
no_var c v none = elim (cases_Bool (has_var c v)) [
  | inl some ↦ let found = of_var c v some in absurd (none found.0 found.1 found.2)
  | inr h ↦ h
]

-- one literal more, of a variable that is not there yet
pub vars_differ-push : (c : List Lit) (l : Lit) → vars_differ c ≡ true → has_var c l.var ≡ false
    → vars_differ (c ++ l ∷ []) ≡ true
vars_differ-push [] l once new = refl
vars_differ-push (k ∷ c) l once new =
    let both = and_parts _ _ once in
    let parts = or_parts _ _ new in
    let unlike : has_var (c ++ l ∷ []) k.var ≡ false =
    list_any-append (λ (m : Lit). m.var == k.var) c (l ∷ [])
    ∙ or_from _ _ (not-true _ both.0) (or_from _ false (other_way k.var l.var parts.0) refl) in
    and_from _ _ (not_from_false _ unlike) (vars_differ-push c l both.1 parts.1)

pub apart : (k l : Lit) → (k.var == l.var) ≡ false → is_same k l ≡ false
apart k l h = ap (λ b. b && beq k.negated l.negated) h

-- ---- tests by whether a variable is that of the step

pub lose : (b x : Bool) → cond b false x ≡ true → (b ≡ false) × (x ≡ true)
lose true x h = absurd (false≢true h)
lose false x h = (refl, h)

pub gain : (b x : Bool) → b ≡ false → x ≡ true → cond b false x ≡ true
gain true x h g = absurd (true≢false h)
gain false x h g = g
