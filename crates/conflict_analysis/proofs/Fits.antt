-- A trail has no more steps than there are variables.
use Rattle.std.proofs.Common.{◌≡◌, ℕ, suc, ◌<◌, ◌≤◌, ◌==◌, Bool, true, false, not, cond, nat_lt, List, [], ◌∷◌, map}
use Rattle.std.proofs.Common.{length, take, slice_get, Option, Some, None, inl, inr, refl, subst, arith}
use Rattle.std.specs.List.{IsDistinct, AllByRecursion, list_any}
use Rattle.std.proofs.Math.Dec.{eqb}
use Rattle.std.proofs.lemmas.Bool.{cases_Bool, or_cases, and_parts, false≢true}
use Rattle.std.proofs.lemmas.Bool.Decides.{nat_tests}
use borrow.Author.Tests.{eqb-true}
use Rattle.std.proofs.lemmas.List.{length-map}
use Rattle.std.proofs.lemmas.Map.Steps.{length-le_from_distinct_below}
use Rattle.resolution_check.specs.declared.log.Lit.{Lit}
use Rattle.resolution_check.specs.Clauses.{is_below}
use Rattle.resolution_check.specs.Trails.{value_of}

abbrev var_of : Lit → ℕ
var_of l = l.var

abbrev Fresh : List Lit → Type 0
Fresh ss = (at : ℕ) (l : Lit) → slice_get ss at ≡ Some l → value_of (take at ss) l.var ≡ None

pub other_var : (x l : Lit) (rest : Option Bool) → cond (x.var == l.var) (Some (not x.negated)) rest ≡ None
    → ((x.var == l.var) ≡ false) × (rest ≡ None)
other_var x l rest h =
    elim (cases_Bool (x.var == l.var)) [
      | inl t ↦ (let e : Some (not x.negated) ≡ None =
          subst (λ b. cond b (Some (not x.negated)) rest ≡ None) t h in absurd (cc))
      | inr t ↦ (t, subst (λ b. cond b (Some (not x.negated)) rest ≡ None) t h)
    ]

apart_vars : (x : Lit) (ss : List Lit) → ((k : ℕ) (l : Lit) → slice_get ss k ≡ Some l → (x.var == l.var) ≡ false)
    → AllByRecursion (λ y. eqb x.var y ≡ false) (map var_of ss)
apart_vars x [] other = tt
apart_vars x (l ∷ ss) other = (other 0 l refl, apart_vars x ss (λ k m e. other (suc k) m e))

distinct_vars : (ss : List Lit) → Fresh ss → IsDistinct eqb (map var_of ss)
unfolding IsDistinct
distinct_vars [] fresh = tt
distinct_vars (x ∷ ss) fresh = (
  apart_vars x ss (λ k l e. (other_var x l (value_of (take k ss) l.var) (fresh (suc k) l e)).0),
  distinct_vars ss (λ k l e. (other_var x l (value_of (take k ss) l.var) (fresh (suc k) l e)).1),
)

member_below : (vars : ℕ) (ss : List Lit) (q : ℕ) → is_below vars ss ≡ true → list_any (eqb q) (map var_of ss) ≡ true
    → q < vars
member_below vars [] q below h = absurd (false≢true h)
member_below vars (l ∷ ss) q below h =
    let both = and_parts (nat_lt l.var vars) (is_below vars ss) below in
    elim (or_cases (eqb q l.var) (list_any (eqb q) (map var_of ss)) h) [
      | inl t ↦ (let e : q ≡ l.var = eqb-true q l.var t in let b : nat_lt l.var vars ≡ true = both.0 in
          grind (arith, nat_tests))
      | inr t ↦ member_below vars ss q both.1 t
    ]

pub trail_fits : (vars : ℕ) (ss : List Lit) → is_below vars ss ≡ true
    → ((at : ℕ) (l : Lit) → slice_get ss at ≡ Some l → value_of (take at ss) l.var ≡ None) → length ss ≤ vars
trail_fits vars ss below fresh =
    let h : length (map var_of ss) ≤ vars =
    length-le_from_distinct_below (map var_of ss) vars (distinct_vars ss fresh)
    (λ q i. member_below vars ss q below i) in
    let l : length (map var_of ss) ≡ length ss = length-map ss var_of in
    omega arith
