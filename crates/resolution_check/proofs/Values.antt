-- Values under a trail: longer and shorter trails, and clauses that are false or true under them.
use Rattle.std.proofs.Common.{◌≡◌, ℕ, ◌<◌, ◌≤◌, ◌==◌, Bool, true, false, not, cond, List, [], ◌∷◌, ◌++◌, Option, Some}
use Rattle.std.proofs.Common.{None, is_some, inl, inr, refl, sym, ap, subst, ◌∙◌, arith}
use Rattle.std.specs.Option.{option_or}
use Rattle.std.specs.List.{list_any}
use Rattle.std.proofs.lemmas.Bool.{eq-eqb, false≢true, true≢false, or_cases, or_left, or_right, and_parts, and_from}
use Rattle.std.proofs.lemmas.Bool.{ltb-true, lt-ltb}
use Rattle.resolution_check.specs.declared.log.Lit.{Lit}
use Rattle.resolution_check.specs.Clauses.{has, opposite, is_below}
use Rattle.resolution_check.specs.Trails.{value_of, is_value, holds, fails, Keeps, IsTotal, IsSettled}
use Rattle.resolution_check.proofs.Literals.{alike, same_lit}

-- ---- longer trails

-- a variable has the first value that it is given
pub value_of-append : (ls ms : List Lit) (v : ℕ) → value_of (ls ++ ms) v ≡ option_or (value_of ls v) (value_of ms v)
value_of-append [] ms v = refl
value_of-append (l ∷ ls) ms v =
    let here = Some (not l.negated) in
    elim (l.var == v) as (λ b. cond b here (value_of (ls ++ ms) v)
    ≡ option_or (cond b here (value_of ls v)) (value_of ms v)) [
      | true ↦ refl
      | false ↦ value_of-append ls ms v
    ]

or_none : (o : Option Bool) → option_or o None ≡ o
or_none None = refl
or_none (Some b) = refl

-- a variable that had no value has that of its literal
pub value_of-last : (ls : List Lit) (l : Lit) → value_of ls l.var ≡ None
    → value_of (ls ++ l ∷ []) l.var ≡ Some (not l.negated)
value_of-last ls l free =
    value_of-append ls (l ∷ []) l.var
    ∙ ap (λ o. option_or o (value_of (l ∷ []) l.var)) free
    ∙ ap (λ b. cond b (Some (not l.negated)) None) (eq-eqb l.var l.var refl)

-- every other variable has the value that it had
pub value_of-other : (ls : List Lit) (l : Lit) (v : ℕ) → (l.var == v) ≡ false
    → value_of (ls ++ l ∷ []) v ≡ value_of ls v
value_of-other ls l v other =
    value_of-append ls (l ∷ []) v
    ∙ ap (λ b. option_or (value_of ls v) (cond b (Some (not l.negated)) None)) other
    ∙ or_none (value_of ls v)

-- a value stays when literals follow
pub value_of-keeps : (ls ms : List Lit) (v : ℕ) (b : Bool) → value_of ls v ≡ Some b → value_of (ls ++ ms) v ≡ Some b
value_of-keeps ls ms v b h = value_of-append ls ms v ∙ ap (λ o. option_or o (value_of ms v)) h

-- no value after more literals, so none before
pub value_of-none : (ls ms : List Lit) (v : ℕ) → value_of (ls ++ ms) v ≡ None → value_of ls v ≡ None
value_of-none ls ms v h = by (value_of ls v) refl
  where
    by : (o : Option Bool) → value_of ls v ≡ o → value_of ls v ≡ None
    by None e = e
    by (Some b) e = let both : None ≡ Some b = sym h ∙ value_of-keeps ls ms v b e in absurd (cc)

-- what had a value keeps it
pub keeps-append : (ls ms : List Lit) → Keeps ls (ls ++ ms)
keeps-append ls ms v h = by (value_of ls v) refl
  where
    by : (o : Option Bool) → value_of ls v ≡ o → is_some (value_of (ls ++ ms) v) ≡ true
    by None e = absurd (false≢true (sym (ap is_some e) ∙ h))
    by (Some b) e = ap is_some (value_of-keeps ls ms v b e)

-- ---- literals that are false

one_value : (o : Option Bool) (m n : Bool) → is_value o m ≡ true → is_value o n ≡ true → m ≡ n
one_value None m n h k = absurd (false≢true h)
one_value (Some true) true true h k = refl
one_value (Some true) true false h k = absurd (false≢true k)
one_value (Some true) false n h k = absurd (false≢true h)
one_value (Some false) true n h k = absurd (false≢true h)
one_value (Some false) false true h k = absurd (false≢true k)
one_value (Some false) false false h k = refl

-- a variable that has this value has a value
pub some_value : (o : Option Bool) (n : Bool) → is_value o n ≡ true → is_some o ≡ true
some_value None n h = h
some_value (Some b) n h = refl

-- two false literals of one variable are one literal
pub same_fails : (ls : List Lit) (k l : Lit) → k.var ≡ l.var → fails ls k ≡ true → fails ls l ≡ true → k ≡ l
same_fails ls k l e h g =
    let here : is_value (value_of ls l.var) k.negated ≡ true =
    ap (λ v. is_value (value_of ls v) k.negated) (sym e) ∙ h in
    let n = one_value (value_of ls l.var) k.negated l.negated here g in
    λ i. record { var = e i; negated = n i }

not-itself : (b : Bool) → b ≡ not b → ⊥
not-itself true h = true≢false h
not-itself false h = false≢true h

-- no literal is false together with its negation
pub not_both : (ls : List Lit) (l : Lit) → fails ls l ≡ true → fails ls (opposite l) ≡ true → ⊥
not_both ls l h g = not-itself l.negated (one_value (value_of ls l.var) l.negated (not l.negated) h g)

-- ---- clauses

-- a literal of a clause that passes a test
pub any_from : (p : Lit → Bool) (c : List Lit) (l : Lit) → has c l ≡ true → p l ≡ true → list_any p c ≡ true
any_from p [] l h t = h
any_from p (k ∷ c) l h t =
    elim (or_cases _ _ h) [
      | inl here ↦ or_left _ _ (sym (alike p l k here) ∙ t)
      | inr later ↦ or_right (p k) _ (any_from p c l later t)
    ]

-- a literal of a clause whose variables are below the limit
pub below_at : (limit : ℕ) (c : List Lit) (l : Lit) → is_below limit c ≡ true → has c l ≡ true → l.var < limit
below_at limit [] l below h = absurd (false≢true h)
below_at limit (k ∷ c) l below h = elim (or_cases _ _ h) [
  | inl here ↦ subst (λ (m : Lit). m.var < limit) (sym (same_lit l k here))
      (ltb-true k.var limit (and_parts _ _ below).0)
  | inr later ↦ below_at limit c l (and_parts _ _ below).1 later
]

-- a clause below a limit is below a larger one
pub below_larger : (limit more : ℕ) (c : List Lit) → limit ≤ more → is_below limit c ≡ true → is_below more c ≡ true
below_larger limit more [] within h = refl
below_larger limit more (l ∷ c) within h =
    let both = and_parts _ _ h in
    let known : l.var < limit = ltb-true l.var limit both.0 in
    and_from _ _ (lt-ltb l.var more (omega arith)) (below_larger limit more c within both.1)

-- a clause that is settled where every variable has a value has a true literal
pub settled_true_now : (ls : List Lit) (vars : ℕ) (c : List Lit) → IsTotal vars ls → is_below vars c ≡ true
    → IsSettled ls c → list_any (holds ls) c ≡ true
settled_true_now ls vars c total below (inl t) = any_from (holds ls) c t.lit t.inside t.is_true
settled_true_now ls vars c total below (inr t) =
    let some : is_some (value_of ls t.one.var) ≡ true = total t.one.var (below_at vars c t.one below t.inside_one) in
    absurd (false≢true (sym (ap is_some t.free_one) ∙ some))
