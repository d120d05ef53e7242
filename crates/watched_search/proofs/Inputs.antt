-- Inputs by their numbers: when values satisfy them, and what refutes them before the first decision.
use Rattle.std.proofs.Common.{◌≡◌, ℕ, ◌+◌, ◌==◌, Bool, true, false, not, cond, List, [], ◌∷◌, take, Option}
use Rattle.std.proofs.Common.{◌<◌, eqb-true, zero, suc, Some, None, inl, inr, refl, sym, ap, subst, ◌∙◌, arith}
use Rattle.std.specs.List.{list_all}
use Rattle.std.proofs.lemmas.Bool.{cases_Bool, and_parts, and_from, eq-eqb, false≢true, not-true}
use Rattle.resolution_check.specs.declared.log.Lit.{Lit}
use Rattle.resolution_check.specs.declared.log.Clause.{Clause}
use Rattle.resolution_check.specs.Clauses.{is_inside}
use Rattle.resolution_check.specs.Entries.{clause_value, is_empty, lit_value, satisfies}
use Rattle.resolution_check.specs.Trails.{value_of, is_value, HasTrue}
use Rattle.resolution_check.proofs.Truth.{true_from_has}
use Rattle.clause_arena.specs.Store.{Store}
use Rattle.clause_arena.specs.Held.{clause_numbered, clauses, held_in}
use Rattle.conflict_analysis.specs.Lessons.{IsLesson}
use Rattle.watched_search.specs.Starts.{numbered_from}
use Rattle.watched_search.specs.Sets.{GivesSets, IsAddition}
use Rattle.watched_search.specs.Values.{AgreesWith}
use Rattle.watched_search.proofs.Sets.{resolved_set}

-- ---- under the trail

value_given : (o : Option Bool) (b : Bool) → is_value o b ≡ true → o ≡ Some b
value_given None b h = absurd (false≢true h)
value_given (Some true) true h = refl
value_given (Some true) false h = absurd (false≢true h)
value_given (Some false) true h = absurd (false≢true h)
value_given (Some false) false h = refl

lit_given : (f : ℕ → Bool) (l : Lit) → f l.var ≡ not l.negated → lit_value f l ≡ true
lit_given f l h = by l.negated (f l.var) h
  where
    by : (n b : Bool) → b ≡ not n → cond n (cond b false true) b ≡ true
    by true true h = absurd (false≢true (sym h))
    by true false h = refl
    by false true h = refl
    by false false h = absurd (false≢true h)

-- a clause with a true literal is true under values that agree with the trail
pub clause_given : (f : ℕ → Bool) (steps c : List Lit) → AgreesWith steps f → HasTrue steps c → clause_value f c ≡ true
clause_given f steps c agrees t =
    true_from_has f c t.lit t.inside
    (lit_given f t.lit (agrees t.lit.var (not t.lit.negated) (value_given (value_of steps t.lit.var) _ t.is_true)))

-- numbers go upwards, so the first clause is that of its number
pub number_later : (id k : ℕ) (cs : List Clause) (c : Clause) → k < id
    → clause_numbered (numbered_from id cs) k ≡ Some c → ⊥
number_later id k [] c low h = absurd (cc)
number_later id k (d ∷ cs) c low h = elim (cases_Bool (id == k)) [
  | inl here ↦ (let e : id ≡ k = eqb-true id k here in absurd (omega arith))
  | inr other ↦ number_later (id + 1) k cs c (omega arith)
      (sym (ap (λ b. cond b (Some (record { lits = d.lits })) (clause_numbered (numbered_from (id + 1) cs) k)) other)
      ∙ h)
]

first_numbered : (id : ℕ) (d : Clause) (cs : List Clause) → clause_numbered (numbered_from id (d ∷ cs)) id ≡ Some d
first_numbered id d cs =
    ap (λ b. cond b (Some (record { lits = d.lits })) (clause_numbered (numbered_from (id + 1) cs) id))
    (eq-eqb id id refl)

rest_numbered : (id k : ℕ) (d c : Clause) (cs : List Clause) → clause_numbered (numbered_from (id + 1) cs) k ≡ Some c
    → clause_numbered (numbered_from id (d ∷ cs)) k ≡ Some c
rest_numbered id k d c cs h = elim (cases_Bool (id == k)) [
  | inl here ↦
      let e : id ≡ k = eqb-true id k here in
      absurd (number_later (id + 1) k cs c (omega arith) h)
  | inr other ↦
      ap (λ b. cond b (Some (record { lits = d.lits })) (clause_numbered (numbered_from (id + 1) cs) k)) other ∙ h
]

-- inputs that are true clause by clause are satisfied
pub all_satisfied : (f : ℕ → Bool) (id : ℕ) (cs : List Clause)
    → ((k : ℕ) (c : Clause) → clause_numbered (numbered_from id cs) k ≡ Some c → clause_value f c.lits ≡ true)
    → satisfies f cs ≡ true
all_satisfied f id [] all = refl
all_satisfied f id (d ∷ cs) all =
    and_from _ _ (all id d (first_numbered id d cs))
    (all_satisfied f (id + 1) cs (λ k c h. all k c (rest_numbered id k d c cs h)))

-- ---- refuted before the first decision

front_numbered : (id k n : ℕ) (cs : List Clause) (c : Clause)
    → clause_numbered (numbered_from id (take n cs)) k ≡ Some c
    → clause_numbered (numbered_from id cs) k ≡ Some c
front_numbered id k zero cs c h = absurd (cc)
front_numbered id k (suc n) [] c h = absurd (cc)
front_numbered id k (suc n) (d ∷ cs) c h = elim (cases_Bool (id == k)) [
  | inl here ↦
      ap (λ b. cond b (Some (record { lits = d.lits })) (clause_numbered (numbered_from (id + 1) cs) k)) here
      ∙ sym (ap (λ b. cond b (Some (record { lits = d.lits }))
      (clause_numbered (numbered_from (id + 1) (take n cs)) k)) here) ∙ h
  | inr other ↦
      ap (λ b. cond b (Some (record { lits = d.lits })) (clause_numbered (numbered_from (id + 1) cs) k)) other
      ∙ front_numbered (id + 1) k n cs c
      (sym (ap (λ b. cond b (Some (record { lits = d.lits }))
      (clause_numbered (numbered_from (id + 1) (take n cs)) k)) other) ∙ h)
]

some_left : (lits : List Lit) → is_empty lits ≡ false → is_inside lits [] ≡ false
some_left [] h = absurd (false≢true (sym h))
some_left (l ∷ lits) h = refl

filled_numbered : (id k : ℕ) (cs : List Clause) (c : Clause)
    → list_all (λ (d : Clause). not (is_empty d.lits)) cs ≡ true
    → clause_numbered (numbered_from id cs) k ≡ Some c → is_empty c.lits ≡ false
filled_numbered id k [] c all h = absurd (cc)
filled_numbered id k (d ∷ cs) c all h =
    let both = and_parts (not (is_empty d.lits)) (list_all (λ (d : Clause). not (is_empty d.lits)) cs) all in
    elim (cases_Bool (id == k)) [
      | inl here ↦
          let e : Some (record { lits = d.lits }) ≡ Some c =
          sym (ap (λ b. cond b (Some (record { lits = d.lits })) (clause_numbered (numbered_from (id + 1) cs) k)) here)
          ∙ h in
          let m : record { lits = d.lits } ≡ c = cc in
          subst (λ (x : Clause). is_empty x.lits ≡ false) m (not-true _ both.0)
      | inr other ↦ filled_numbered (id + 1) k cs c both.1
          (sym (ap (λ b. cond b (Some (record { lits = d.lits })) (clause_numbered (numbered_from (id + 1) cs) k))
          other) ∙ h)
    ]

-- What a clause that is false at level 0 teaches is an addition to all inputs, of which the first ones are held.
pub front_addition : (inputs : List Clause) (n : ℕ) (a : Store) (steps lits : List Lit) (chain : List ℕ)
    → list_all (λ (d : Clause). not (is_empty d.lits)) inputs ≡ true → clauses a ≡ numbered_from 1 (take n inputs)
    → IsLesson a steps lits chain → lits ≡ [] → IsAddition (clause_numbered (numbered_from 1 inputs)) lits chain
front_addition inputs n a steps lits chain filled is lesson empty =
    let gives : GivesSets (held_in a) (clause_numbered (numbered_from 1 inputs)) =
    λ k c h. (c, front_numbered 1 k n inputs c (sym (ap (λ xs. clause_numbered xs k) is) ∙ h), λ l. refl) in
    let found = resolved_set (held_in a) (clause_numbered (numbered_from 1 inputs)) gives chain lesson.clause
    lesson.resolves in
    record {
      clause = found.0;
      resolves = found.1;
      same = λ l. sym (found.2 l) ∙ lesson.same l;
      once = lesson.once;
      smallest = λ k c h. ap (is_inside c.lits) empty ∙ some_left c.lits (filled_numbered 1 k inputs c filled h);
    }
