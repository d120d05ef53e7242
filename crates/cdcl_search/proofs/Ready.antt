-- What a search keeps from one addition to the next.
use Rattle.std.proofs.Common.{◌≡◌, ℕ, zero, suc, ◌+◌, ◌<◌, ◌≤◌, ◌^◌, ◌==◌, Bool, true, false, cond, List, [], ◌∷◌}
use Rattle.std.proofs.Common.{◌++◌, length}
use Rattle.std.proofs.Common.{length-append, Option, Some, None, refl, sym, ap, subst, ◌∙◌}
use Rattle.std.proofs.Common.{arith, eqb-true, not, take}
use Rattle.std.specs.List.{list_all}
use Rattle.std.specs.Option.{option_or}
use Rattle.std.proofs.lemmas.List.{length-map}
use Rattle.term_store.specs.Terms.{truth}
use Rattle.resolution_check.specs.declared.log.Lit.{Lit}
use Rattle.resolution_check.specs.declared.log.Clause.{Clause}
use Rattle.resolution_check.specs.declared.log.Entry.TheVariants.{Add}
use Rattle.resolution_check.specs.Clauses.{is_below}
use Rattle.resolution_check.specs.Entries.{clause_held, clause_value, is_empty, satisfies}
use Rattle.resolution_check.specs.Text.{HasText, line_of, log_text}
use Rattle.resolution_check.specs.Trails.{value_of, is_value, fails}
use Rattle.resolution_check.proofs.Values.{below_at}
use Rattle.resolution_check.proofs.Variables.{itself}
use Rattle.mw_outside.specs.Taken.{Takes, TakesPart}
use Rattle.clause_arena.specs.Links.{word}
use Rattle.clause_arena.specs.Store.{Store}
use Rattle.clause_arena.specs.Held.{clause_numbered, clauses, held_in, lits_of}
use Rattle.conflict_analysis.specs.Lessons.{IsLesson}
use Rattle.conflict_analysis.specs.Levels.{ContainsNone}
use Rattle.conflict_analysis.specs.Steps.{IsTrail}
use Rattle.conflict_analysis.proofs.Below.{false_below}
use Rattle.watched_search.specs.Sets.{GivesSets, IsAddition}
use Rattle.watched_search.specs.Starts.{AreBelow}
use Rattle.watched_search.specs.Trails.{Assigned}
use Rattle.watched_search.specs.Values.{AgreesWith}
use Rattle.watched_search.specs.Watches.{IsKept, IsSameView}
use Rattle.watched_search.specs.Starts.{numbered_from}
use Rattle.watched_search.proofs.Inputs.{all_satisfied, front_addition, number_later}
use Rattle.watched_search.proofs.Sets.{numbered_last, sets_back, sets_then, view_sets}
use Rattle.watched_search.proofs.Starts.{below_same, held_below, input_below, only_has, only_is}
use Rattle.cdcl_search.specs.declared.outcome.Outcome.{Outcome}
use Rattle.cdcl_search.specs.declared.outcome.Outcome.TheVariants.{Sat, Unknown, Unsat}
use Rattle.cdcl_search.specs.Outcomes.{IsCut, IsLogged, OnSat, input_entries}
use Rattle.cdcl_search.specs.Going.{Cuts, GoesOn, IsGoing, IsReady, Refutes}
use Rattle.cdcl_search.specs.Turns.{AreUntold, TellsAt, vars_of}
use Rattle.cdcl_search.proofs.Logs.{addition_text, cut_more, cut_within, going_more, going_same, going_start}
use Rattle.cdcl_search.proofs.Logs.{done_unsat, refuted_more}
use Rattle.cdcl_search.proofs.Bumps.{first_turn}

-- a clause is held after an addition exactly where it was, or is the one added
pub held_more : (old new : Store) (id : ℕ) (lits : List Lit) → clauses new ≡ clauses old ++ (id, lits) ∷ []
    → (k : ℕ) → held_in new k ≡ option_or (held_in old k) (cond (id == k) (Some (record { lits = lits })) None)
held_more old new id lits grown k =
    ap (λ (xs : List (ℕ × List Lit)). clause_numbered xs k) grown ∙ numbered_last (clauses old) id lits k

-- what was held is held
pub gives_grown : (old new : Store) (id : ℕ) (lits : List Lit) → clauses new ≡ clauses old ++ (id, lits) ∷ []
    → GivesSets (held_in old) (held_in new)
gives_grown old new id lits grown k c h = (
  c,
  held_more old new id lits grown k
      ∙ ap (λ o. option_or o (cond (id == k) (Some (record { lits = lits })) None)) h,
  λ l. refl,
)

none_zero : (old new : Store) → IsSameView old new → held_in old 0 ≡ None → held_in new 0 ≡ None
none_zero old new v none = by (held_in new 0) refl
  where
    by : (o : Option Clause) → held_in new 0 ≡ o → held_in new 0 ≡ None
    by None e = e
    by (Some c) e =
        let d = (view_sets old new v).back 0 c e in
        let clash : None ≡ Some d.0 = sym none ∙ d.1 in absurd (cc)

-- while watches move the log holds the same clauses
pub going_view : (before now : Option (List ℕ)) (ins : List Clause) (old new : Store) (next added runs : ℕ)
    (tolds same_tolds : List (Option (List ℕ))) → IsSameView old new → same_tolds ≡ tolds
    → IsGoing before now ins (held_in old) next added runs tolds
    → IsGoing before now ins (held_in new) next added runs same_tolds
going_view before now ins old new next added runs tolds same_tolds v same g =
    subst (λ ts. IsGoing before now ins (held_in new) next added runs ts) (sym same)
    (going_same before now ins (held_in old) next added runs tolds g (held_in new)
    (sets_then (held_in new) (held_in old) (clause_held g.entries)
    (sets_back (held_in old) (held_in new) (view_sets old new v)) g.same))

-- while watches move and literals are made true the search stays ready
pub ready_same : (old new : Store) (was now : Assigned) (next from : ℕ) → IsReady old was next from
    → IsSameView old new → now.vars ≡ was.vars → IsTrail new now.vars now.lits now.levels now.reasons
    → IsKept new now.lits now.levels 0 → IsReady new now next 0
ready_same old new was now next from r v same trail kept = record {
  vars = same ∙ r.vars ∙ sym v.vars;
  trail = trail;
  kept = kept;
  within = omega arith;
  below = below_same old new next v r.below;
  above = none_zero old new v r.above;
  some = r.some;
  number = (let same : length (clauses new) ≡ length (clauses old) = count in
      let few : next ≤ length (clauses old) + 2 ^ 62 = r.number in omega arith);
  few = r.few;
}
  where
    count : length (clauses new) ≡ length (clauses old)
    count =
        length-map new.refs (λ (s : ℕ). (word new.words (s + 1), lits_of new s)) ∙ ap length v.refs
        ∙ sym (length-map old.refs (λ (s : ℕ). (word old.words (s + 1), lits_of old s)))

-- steps taken back leave it ready
pub ready_round : (a : Store) (was now : Assigned) (next from to : ℕ) → IsReady a was next from → now.vars ≡ was.vars
    → IsTrail a now.vars now.lits now.levels now.reasons → IsKept a now.lits now.levels to → to ≤ length now.lits
    → IsReady a now next to
ready_round a was now next from to r same trail kept within = record {
  vars = same ∙ r.vars;
  trail = trail;
  kept = kept;
  within = within;
  below = r.below;
  above = r.above;
  some = r.some;
  number = r.number;
  few = r.few;
}

-- after an addition that is held it is ready for the next one
pub ready_more : (old new : Store) (was now : Assigned) (id from : ℕ) (lits : List Lit) → IsReady old was id 0
    → clauses new ≡ clauses old ++ (id, lits) ∷ [] → length (clauses new) ≤ 2 ^ 62 → now.vars ≡ was.vars
    → new.vars ≡ old.vars → AreBelow new (id + 1) → IsTrail new now.vars now.lits now.levels now.reasons
    → IsKept new now.lits now.levels from → from ≤ length now.lits → IsReady new now (id + 1) from
ready_more old new was now id from lits r grown few same same_vars below trail kept within =
    let long : length (clauses new) ≡ length (clauses old) + 1 =
    ap length grown ∙ length-append (clauses old) ((id, lits) ∷ []) in
    let number : id ≤ length (clauses old) + 2 ^ 62 = r.number in
    record {
      vars = same ∙ r.vars ∙ sym same_vars;
      trail = trail;
      kept = kept;
      within = within;
      below = below;
      above = held_more old new id lits grown 0 ∙ ap (λ o. option_or o (own 0)) r.above ∙ none_own (id == 0) refl;
      some = omega arith;
      number = omega arith;
      few = omega arith;
    }
  where
    own : ℕ → Option Clause
    own k = cond (id == k) (Some (record { lits = lits })) None

    none_own : (b : Bool) → (id == 0) ≡ b → own 0 ≡ None
    none_own false e = ap (λ b. cond {A = Option Clause} b (Some (record { lits = lits })) None) e
    none_own true e =
        let zero : id ≡ 0 = eqb-true id 0 e in
        let some : 1 ≤ id = r.some in absurd (omega arith)

-- what was learnt is an addition to the clauses held
pub lesson_adds : (a : Store) (steps lits : List Lit) (chain : List ℕ) → IsLesson a steps lits chain
    → ContainsNone a lits → IsAddition (held_in a) lits chain
lesson_adds a steps lits chain l none =
    record { clause = l.clause; resolves = l.resolves; same = l.same; once = l.once; smallest = none.outside }

-- and its addition has a text
pub lesson_text : (a : Store) (now : Assigned) (id from : ℕ) (lits : List Lit) (chain : List ℕ) → IsReady a now id from
    → now.vars ≤ 2 ^ 63 → IsLesson a now.lits lits chain → ContainsNone a lits
    → HasText (Add id (record { lits = lits }) chain)
lesson_text a now id from lits chain r small l none =
    let some : 1 ≤ id = r.some in
    addition_text (held_in a) now.vars id lits chain (omega arith) r.few small
    (false_below now.vars now.lits lits r.trail.below l.false_all) named (lesson_adds a now.lits lits chain l none)
  where
    named : (n : ℕ) (c : Clause) → held_in a n ≡ Some c → (0 < n) × (n < id)
    named zero c h = let clash : None ≡ Some c = sym r.above ∙ h in absurd (cc)
    named (suc n) c h = (omega arith, held_below a id (suc n) c r.below h)

pub no_items : (ls : List Lit) → length ls ≡ 0 → ls ≡ []
no_items [] none = refl
no_items (l ∷ ls) none = absurd (omega arith)

not_empty : (ls : List Lit) → 0 < length ls → is_empty ls ≡ false
not_empty [] some = absurd (omega arith)
not_empty (l ∷ ls) some = refl

module _ (a : Store) (now : Assigned) (id from : ℕ) (lits : List Lit) (chain : List ℕ) (r : IsReady a now id from)
    (small : now.vars ≤ 2 ^ 63) (l : IsLesson a now.lits lits chain) (none : ContainsNone a lits)
    (old new : Option (List ℕ)) (tolds : List (Option (List ℕ))) where
  -- a front of the line was written
  pub lesson_cuts : TakesPart old new (line_of (Add id (record { lits = lits }) chain))
      → Cuts old new tolds (held_in a) id
  lesson_cuts part = λ before ins added runs g.
      cut_more before old ins (held_in a) id added runs tolds g lits chain (lesson_adds a now.lits lits chain l none)
      (lesson_text a now id from lits chain r small l none) new part

  -- the line was written, and the clause is empty
  pub lesson_refutes : (turn : ℕ) (more_tolds : List (Option (List ℕ))) → TellsAt tolds more_tolds turn (vars_of lits)
      → lits ≡ [] → Takes old new (line_of (Add id (record { lits = lits }) chain))
      → Refutes old new tolds more_tolds (held_in a) id turn
  lesson_refutes turn more_tolds tells empty takes = λ before ins added runs is_turn g.
      refuted_more before old ins (held_in a) id added runs tolds g lits chain
      (lesson_adds a now.lits lits chain l none) (lesson_text a now id from lits chain r small l none) turn is_turn
      more_tolds tells new (ap is_empty empty) takes

  -- the line was written, and the clause is held
  pub lesson_goes : (turn : ℕ) (more_tolds : List (Option (List ℕ))) → TellsAt tolds more_tolds turn (vars_of lits)
      → (more : Store) → clauses more ≡ clauses a ++ (id, lits) ∷ [] → 0 < length lits
      → Takes old new (line_of (Add id (record { lits = lits }) chain))
      → GoesOn old new tolds more_tolds (held_in a) (held_in more) id turn
  lesson_goes turn more_tolds tells more grown some takes = λ before ins added runs is_turn g.
      going_more before old ins (held_in a) id added runs tolds g lits chain (lesson_adds a now.lits lits chain l none)
      (lesson_text a now id from lits chain r small l none) turn is_turn more_tolds tells new (held_in more)
      (held_more a more id lits grown)
      (not_empty lits some) takes

-- values that were read off a trail agree with it
pub values_agree : (vars : ℕ) (steps : List Lit) (values : List Bool) → is_below vars steps ≡ true
    → ((var : ℕ) → var < vars → truth values var ≡ is_value (value_of steps var) true)
    → AgreesWith steps (truth values)
values_agree vars steps values below read var b is =
    let l : Lit = record { var = var; negated = b } in
    let falls : fails steps l ≡ true = ap (λ o. is_value o b) is ∙ itself b in
    let one : is_below vars (l ∷ []) ≡ true =
    false_below vars steps (l ∷ []) below (λ k h. subst (λ m. fails steps m ≡ true) (sym (only_is k l h)) falls) in
    read var (below_at vars (l ∷ []) l one (only_has l)) ∙ ap (λ o. is_value o true) is ∙ by b
  where
    by : (x : Bool) → is_value (Some x) true ≡ x
    by true = refl
    by false = refl

-- ---- inputs

none_below : (id k : ℕ) (cs : List Clause) → k < id → clause_numbered (numbered_from id cs) k ≡ None
none_below id k cs low = by (clause_numbered (numbered_from id cs) k) refl
  where
    by : (o : Option Clause) → clause_numbered (numbered_from id cs) k ≡ o
        → clause_numbered (numbered_from id cs) k ≡ None
    by None e = e
    by (Some c) e = absurd (number_later id k cs c low e)

length-numbered : (id : ℕ) (cs : List Clause) → length (numbered_from id cs) ≡ length cs
length-numbered id [] = refl
length-numbered id (c ∷ cs) = ap suc (length-numbered (id + 1) cs)

-- once all inputs are held a search is ready
pub ready_start : (a : Store) (now : Assigned) (inputs : List Clause) (next : ℕ) → now.vars ≡ a.vars
    → IsTrail a now.vars now.lits now.levels now.reasons → IsKept a now.lits now.levels 0
    → AreBelow a (length inputs + 1) → clauses a ≡ numbered_from 1 inputs → next ≡ length inputs + 1
    → length inputs < 2 ^ 63 → IsReady a now next 0
ready_start a now inputs next same trail kept below is is_next few = record {
  vars = same;
  trail = trail;
  kept = kept;
  within = omega arith;
  below = subst (AreBelow a) (sym is_next) below;
  above = ap (λ (xs : List (ℕ × List Lit)). clause_numbered xs 0) is ∙ none_below 1 0 inputs (omega arith);
  some = omega (arith, is_next);
  number = (let all : length (clauses a) ≡ length inputs = ap length is ∙ length-numbered 1 inputs in
      omega (arith, is_next));
  few = omega (arith, is_next);
}

-- what is asked of inputs
pub record AreInputs (vars : ℕ) (inputs : List Clause) : Type 0 where
  pub filled : list_all (λ (c : Clause). not (is_empty c.lits)) inputs ≡ true
  pub below : list_all (λ (c : Clause). is_below vars c.lits) inputs ≡ true
  pub small : vars ≤ 2 ^ 63
  pub few : length inputs < 2 ^ 63

-- the log of the inputs, which an arena holds
pub going_held : (before now : Option (List ℕ)) (vars : ℕ) (inputs : List Clause) (a : Store) (next : ℕ)
    → AreInputs vars inputs → clauses a ≡ numbered_from 1 inputs → next ≡ length inputs + 1
    → (tolds : List (Option (List ℕ))) → AreUntold tolds
    → Takes before now (log_text (input_entries 1 inputs)) → IsGoing before now inputs (held_in a) next 0 0 tolds
going_held before now vars inputs a next may is is_next tolds untold takes =
    subst (λ (xs : List (ℕ × List Lit)). IsGoing before now inputs (clause_numbered xs) next 0 0 tolds) (sym is)
    (going_start before now vars inputs next may.small (let h : length inputs < 2 ^ 63 = may.few in omega arith)
    may.below is_next tolds untold takes)

-- the empty clause that follows from inputs has a text
pub refuting_text : (vars id : ℕ) (inputs : List Clause) (lits : List Lit) (chain : List ℕ) → id ≡ length inputs + 1
    → length inputs < 2 ^ 63 → vars ≤ 2 ^ 63 → lits ≡ []
    → IsAddition (clause_numbered (numbered_from 1 inputs)) lits chain
    → HasText (Add id (record { lits = lits }) chain)
refuting_text vars id inputs lits chain is few small empty one =
    addition_text (clause_numbered (numbered_from 1 inputs)) vars id lits chain (omega (arith, is)) (omega (arith, is))
    small (ap (is_below vars) empty) named one
  where
    named : (n : ℕ) (c : Clause) → clause_numbered (numbered_from 1 inputs) n ≡ Some c → (0 < n) × (n < id)
    named zero c h = absurd (number_later 1 0 inputs c (omega arith) h)
    named (suc n) c h =
        (omega arith, let low : suc n < 1 + length inputs = input_below 1 (suc n) inputs c h in omega (arith, is))

-- a clause that is false at level 0 refutes the inputs, of which the first ones are held
module _ (vars id n : ℕ) (inputs : List Clause) (a : Store) (steps lits : List Lit) (chain : List ℕ)
    (may : AreInputs vars inputs) (front : clauses a ≡ numbered_from 1 (take n inputs))
    (l : IsLesson a steps lits chain) (empty : lits ≡ []) (is_next : id ≡ length inputs + 1) where
  refuting : IsAddition (clause_numbered (numbered_from 1 inputs)) lits chain
  refuting = front_addition inputs n a steps lits chain may.filled front l empty

  pub refuted_text : HasText (Add id (record { lits = lits }) chain)
  refuted_text = refuting_text vars id inputs lits chain is_next may.few may.small empty refuting

  module _ (old new before : Option (List ℕ)) (budget : ℕ) (some : 1 ≤ budget) (tolds : List (Option (List ℕ)))
      (untold : AreUntold tolds) (takes : Takes before old (log_text (input_entries 1 inputs))) where
    start : IsGoing before old inputs (clause_numbered (numbered_from 1 inputs)) id 0 0 tolds
    start =
        going_start before old vars inputs id may.small (let h : length inputs < 2 ^ 63 = may.few in omega arith)
        may.below is_next tolds untold takes

    -- a front of the line was written
    pub refuted_cut : TakesPart old new (line_of (Add id (record { lits = lits }) chain))
        → IsCut before new inputs budget
    refuted_cut part =
        cut_within before new inputs 1 budget some
        (cut_more before old inputs (clause_numbered (numbered_from 1 inputs)) id 0 0 tolds start lits chain refuting
        refuted_text
        new part)

    -- the line was written
    pub refuted_done : (more_tolds : List (Option (List ℕ))) → TellsAt tolds more_tolds 0 (vars_of lits)
        → Takes old new (line_of (Add id (record { lits = lits }) chain))
        → IsLogged before new inputs budget more_tolds Unsat
    refuted_done more_tolds tells more =
        done_unsat before new inputs 1 budget more_tolds some
        (refuted_more before old inputs (clause_numbered (numbered_from 1 inputs)) id 0 0 tolds start lits chain
        refuting refuted_text 0 (first_turn (length tolds)) more_tolds tells new (ap is_empty empty) more)

-- values under which each input that is held is true satisfy the inputs
pub sat_inputs : (a : Store) (inputs : List Clause) → clauses a ≡ numbered_from 1 inputs → (o : Outcome)
    → OnSat o (λ values. (id : ℕ) (c : Clause) → held_in a id ≡ Some c → clause_value (truth values) c.lits ≡ true)
    → OnSat o (λ values. satisfies (truth values) inputs ≡ true)
sat_inputs a inputs is Unsat s = tt
sat_inputs a inputs is (Sat values) s =
    all_satisfied (truth values) 1 inputs
    (λ k c h. s k c (ap (λ (xs : List (ℕ × List Lit)). clause_numbered xs k) is ∙ h))
sat_inputs a inputs is (Unknown added) s = tt
