-- Variables that a trail gives a value are below its limit.
use Rattle.std.proofs.Common.{◌≡◌, ℕ, ◌==◌, true, not, cond, nat_lt, List, [], ◌∷◌, take}
use Rattle.std.proofs.Common.{slice_get}
use Rattle.std.proofs.Common.{Some, is_some, inl, inr, sym, subst}
use Rattle.std.proofs.lemmas.Bool.{cases_Bool, eqb-true, and_parts, false≢true, lt-ltb}
use Rattle.resolution_check.specs.declared.log.Lit.{Lit}
use Rattle.resolution_check.specs.Clauses.{is_below}
use Rattle.resolution_check.specs.Trails.{value_of, fails, AllFail, OthersFail}
use Rattle.resolution_check.proofs.Literals.{all_from}
use Rattle.resolution_check.proofs.Values.{some_value, below_at}
use Rattle.conflict_analysis.proofs.Followed.{front_fails}
use Rattle.conflict_analysis.proofs.Marked.{has_at}

-- a variable with a value is that of one of the literals
value_below : (vars : ℕ) (ss : List Lit) (v : ℕ) → is_below vars ss ≡ true → is_some (value_of ss v) ≡ true
    → nat_lt v vars ≡ true
value_below vars [] v below h = absurd (false≢true h)
value_below vars (l ∷ ss) v below h =
    let both = and_parts (nat_lt l.var vars) (is_below vars ss) below in
    elim (cases_Bool (l.var == v)) [
      | inl t ↦ subst (λ u. nat_lt u vars ≡ true) (eqb-true l.var v t) both.0
      | inr t ↦ value_below vars ss v both.1
          (subst (λ b. is_some (cond b (Some (not l.negated)) (value_of ss v)) ≡ true) t h)
    ]

fails_below : (vars : ℕ) (ss : List Lit) (l : Lit) → is_below vars ss ≡ true → fails ss l ≡ true
    → nat_lt l.var vars ≡ true
fails_below vars ss l below h = value_below vars ss l.var below (some_value (value_of ss l.var) l.negated h)

-- a clause of false literals
pub false_below : (vars : ℕ) (ss c : List Lit) → is_below vars ss ≡ true → AllFail ss c → is_below vars c ≡ true
false_below vars ss c below falls = all_from (λ l. nat_lt l.var vars) c (λ l h. fails_below vars ss l below (falls l h))

-- a clause all of whose literals but that of a step were false before it
pub reason_below : (vars : ℕ) (ss : List Lit) (at : ℕ) (t : Lit) (c : List Lit) → is_below vars ss ≡ true
    → slice_get ss at ≡ Some t → OthersFail (take at ss) c t → is_below vars c ≡ true
reason_below vars ss at t c below there others =
    all_from (λ l. nat_lt l.var vars) c (λ l h. elim (others l h) [
      | inl e ↦ subst (λ (k : Lit). nat_lt k.var vars ≡ true) (sym e)
          (lt-ltb t.var vars (below_at vars ss t below (has_at ss at t there)))
      | inr falls ↦ fails_below vars ss l below (front_fails ss at l falls)
    ])
