-- What follows from clauses that are true under an assignment is true under it.
use Rattle.std.proofs.Common.{◌≡◌, inl, inr, refl, sym, ◌∙◌, ap, subst, ℕ, ◌==◌, Bool, true, false, not, ◌&&◌, cond}
use Rattle.std.proofs.Common.{List, [], ◌∷◌, ◌++◌, Option, Some, None, Ok}
use Rattle.std.specs.Option.{option_or, option_map}
use Rattle.std.specs.List.{cons_option}
use Rattle.std.proofs.lemmas.Bool.{cases_Bool, and_parts, false≢true, or_left, or_right, or_cases, cond_both}
use Rattle.std.proofs.lemmas.Bool.{not-false, false_from_ne_true, or_from}
use Rattle.std.proofs.lemmas.List.Folds.{list_any-append}
use Rattle.std.proofs.Math.Bool.{and-true, and_assoc}
use Rattle.resolution_check.specs.declared.log.Lit.{Lit}
use Rattle.resolution_check.specs.declared.log.Clause.{Clause}
use Rattle.resolution_check.specs.declared.log.Entry.{Entry}
use Rattle.resolution_check.specs.declared.log.Entry.TheVariants.{Input, Add, Delete, End}
use Rattle.resolution_check.specs.Clauses.{opposite, is_same, has, is_inside, clashing, the_one, without, resolvent}
use Rattle.resolution_check.specs.Entries.{lit_value, clause_value, satisfies, resolved, clause_by, clause_given}
use Rattle.resolution_check.specs.Entries.{clause_held, is_deleted, input_of, inputs, is_empty, is_refutation}
use Rattle.resolution_check.specs.Entries.{adds_empty, IsSound, KeepsGood, IsGood, IsUnsatisfiable}
use Rattle.resolution_check.proofs.Literals.{alike}
use Rattle.resolution_check.proofs.Values.{any_from}
use Rattle.resolution_check.proofs.Chains.{resolved_has}
use Rattle.resolution_check.proofs.Goods.{by_steps, clause_given-push, any-push}

-- ---- clauses

opposite_value : (v : ℕ → Bool) (l : Lit) → lit_value v l ≡ true → lit_value v (opposite l) ≡ false
opposite_value v l h = flipped l.negated (v l.var) h
  where
    flipped : (n b : Bool) → cond n (cond b false true) b ≡ true → cond (not n) (cond b false true) b ≡ false
    flipped true true h = absurd (false≢true h)
    flipped true false h = refl
    flipped false true h = refl
    flipped false false h = absurd (false≢true h)

-- a true clause has another true literal than a false one
true_without : (v : ℕ → Bool) (l : Lit) (c : List Lit) → lit_value v l ≡ false → clause_value v c ≡ true
    → clause_value v (without c l) ≡ true
true_without v l [] f h = h
true_without v l (x ∷ c) f h =
    cond_both (not (is_same l x)) (x ∷ without c l) (without c l) (λ d. clause_value v d ≡ true)
    (λ other. elim (or_cases (lit_value v x) (clause_value v c) h) [
      | inl here ↦ or_left (lit_value v x) (clause_value v (without c l)) here
      | inr later ↦ or_right (lit_value v x) (clause_value v (without c l)) (true_without v l c f later)
    ])
    (λ same. elim (or_cases (lit_value v x) (clause_value v c) h) [
      | inl here ↦ absurd (false≢true (sym f ∙ alike (lit_value v) l x (not-false _ same) ∙ here))
      | inr later ↦ true_without v l c f later
    ])

resolvent_true : (v : ℕ → Bool) (c d s : List Lit) → clause_value v c ≡ true → clause_value v d ≡ true
    → resolvent c d ≡ Some s → clause_value v s ≡ true
resolvent_true v c d s h k e = by_pivot (the_one (clashing c d)) e
  where
    by_pivot : (o : Option Lit) → option_map (λ l. without c l ++ without d (opposite l)) o ≡ Some s
        → clause_value v s ≡ true
    by_pivot None e = absurd (cc)
    by_pivot (Some p) e =
        let parts : without c p ++ without d (opposite p) ≡ s = cc in
        subst (λ t. clause_value v t ≡ true) parts
        (list_any-append (lit_value v) (without c p) (without d (opposite p)) ∙ elim (cases_Bool (lit_value v p)) [
          | inl holds ↦ or_right _ _ (true_without v (opposite p) d (opposite_value v p holds) k)
          | inr fails ↦ or_left _ _ (true_without v p c fails h)
        ])

-- a clause that has a true literal is true
pub true_from_has : (v : ℕ → Bool) (c : List Lit) (l : Lit) → has c l ≡ true → lit_value v l ≡ true
    → clause_value v c ≡ true
true_from_has v = any_from (lit_value v)

true_from_inside : (v : ℕ → Bool) (r c : List Lit) → is_inside r c ≡ true → clause_value v r ≡ true
    → clause_value v c ≡ true
true_from_inside v [] c h t = absurd (false≢true t)
true_from_inside v (l ∷ r) c h t =
    let both =
    and_parts _ _ h in elim (or_cases _ _ t) [
      | inl here ↦ true_from_has v c l both.0 here
      | inr later ↦ true_from_inside v r c both.1 later
    ]

-- ---- lists of entries

-- the inputs make every clause true that was given, and none that was added is empty
pub record IsTrueUnder (v : ℕ → Bool) (es : List Entry) : Type 0 where
  pub given : (id : ℕ) (c : Clause) → clause_given es id ≡ Some c → clause_value v c.lits ≡ true
  pub no_empty : adds_empty es ≡ false

abbrev Follows : (ℕ → Bool) → List Entry → Type 0
Follows v es = satisfies v (inputs es) ≡ true → IsTrueUnder v es

held_true : (v : ℕ → Bool) (es : List Entry) → IsTrueUnder v es → (id : ℕ) (c : Clause) → clause_held es id ≡ Some c
    → clause_value v c.lits ≡ true
held_true v es h id c e = by_deleted (is_deleted es id) e
  where
    by_deleted : (b : Bool) → cond b None (clause_given es id) ≡ Some c → clause_value v c.lits ≡ true
    by_deleted true e = absurd (cc)
    by_deleted false e = h.given id c e

-- the claimed clause of an addition
addition_true : (v : ℕ → Bool) (es : List Entry) (clause : Clause) (chain : List ℕ) → IsTrueUnder v es
    → (r : List Lit) → resolved (clause_held es) chain ≡ Ok r → is_inside r clause.lits ≡ true
    → clause_value v clause.lits ≡ true
addition_true v es clause chain h r e inside =
    true_from_inside v r clause.lits inside
    (resolved_has (λ c. clause_value v c ≡ true) (resolvent_true v) (clause_held es) (held_true v es h) chain r e)

value_here : (v : ℕ → Bool) (own id : ℕ) (clause c : Clause) → cond (own == id) (Some clause) None ≡ Some c
    → clause_value v clause.lits ≡ true → clause_value v c.lits ≡ true
value_here v own id clause c e h = by_test (own == id) e
  where
    by_test : (b : Bool) → cond b (Some clause) None ≡ Some c → clause_value v c.lits ≡ true
    by_test true e = let same : clause ≡ c = cc in subst (λ d. clause_value v d.lits ≡ true) same h
    by_test false e = absurd (cc)

-- the clause of an entry that keeps the list good
entry_true : (v : ℕ → Bool) (es : List Entry) (e : Entry) → IsTrueUnder v es → IsSound es e
    → satisfies v (inputs (e ∷ [])) ≡ true → (id : ℕ) (c : Clause) → clause_by id e ≡ Some c
    → clause_value v c.lits ≡ true
entry_true v es (Input own clause) h k t id c e =
    value_here v own id clause c e (sym (and-true (clause_value v clause.lits)) ∙ t)
entry_true v es (Add own clause chain) h k t id c e =
    value_here v own id clause c e (addition_true v es clause chain h k.1 k.2 k.3)
entry_true v es (Delete own) h k t id c e = absurd (cc)
entry_true v es End h k t id c e = absurd (cc)

no_refutation : (v : ℕ → Bool) (es : List Entry) (e : Entry) → IsTrueUnder v es → IsSound es e → is_refutation e ≡ false
no_refutation v es (Input own clause) h k = refl
no_refutation v es (Add own clause chain) h k = not_empty clause.lits (addition_true v es clause chain h k.1 k.2 k.3)
  where
    not_empty : (c : List Lit) → clause_value v c ≡ true → is_empty c ≡ false
    not_empty [] t = absurd (false≢true t)
    not_empty (l ∷ c) t = refl
no_refutation v es (Delete own) h k = refl
no_refutation v es End h k = refl

satisfies-push : (v : ℕ → Bool) (es : List Entry) (e : Entry)
    → satisfies v (inputs (es ++ e ∷ [])) ≡ (satisfies v (inputs es) && satisfies v (inputs (e ∷ [])))
satisfies-push v [] e = refl
satisfies-push v (d ∷ es) e = one (satisfies-push v es e) (input_of d)
  where
    one : satisfies v (inputs (es ++ e ∷ [])) ≡ (satisfies v (inputs es) && satisfies v (inputs (e ∷ [])))
        → (o : Option Clause)
        → satisfies v (cons_option o (inputs (es ++ e ∷ [])))
        ≡ (satisfies v (cons_option o (inputs es)) && satisfies v (inputs (e ∷ [])))
    one later None = later
    one later (Some c) =
        ap (λ b. clause_value v c.lits && b) later
        ∙ sym (and_assoc (clause_value v c.lits) (satisfies v (inputs es)) (satisfies v (inputs (e ∷ []))))

follows_more : (v : ℕ → Bool) (es : List Entry) (e : Entry) → KeepsGood es e → Follows v es → Follows v (es ++ e ∷ [])
follows_more v es e kept earlier t =
    let both = and_parts _ _ (sym (satisfies-push v es e) ∙ t) in
    let before = earlier both.0 in
    record {
      given = λ id c k. either (clause_given es id) (clause_by id e) c (before.given id c)
          (entry_true v es e before kept.1 both.1 id c) (sym (clause_given-push es e id) ∙ k);
      no_empty = any-push is_refutation es e ∙ or_from _ _ before.no_empty (no_refutation v es e before kept.1);
    }
  where
    either : (a b : Option Clause) (c : Clause) → (a ≡ Some c → clause_value v c.lits ≡ true)
        → (b ≡ Some c → clause_value v c.lits ≡ true) → option_or a b ≡ Some c → clause_value v c.lits ≡ true
    either (Some x) b c p q h = p h
    either None b c p q h = q h

-- a good list that adds the empty clause has inputs that no assignment satisfies
pub unsatisfiable : (es : List Entry) → IsGood es → adds_empty es ≡ true → IsUnsatisfiable (inputs es)
unsatisfiable es good adds v =
    false_from_ne_true _ (λ t. false≢true
    (sym (by_steps KeepsGood (Follows v) (λ s. record { given = λ id c e. absurd (cc); no_empty = refl })
    (follows_more v) es good t).no_empty ∙ adds))
