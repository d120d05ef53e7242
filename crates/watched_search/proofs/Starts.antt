-- Input clauses are held before the first decision: what is kept at level 0, and the numbers that are held.
use Rattle.std.proofs.Common.{◌≡◌, ◌⊎◌, ℕ, zero, suc, ◌+◌, ◌-◌, ◌<◌, ◌≤◌, true, false, List, [], ◌∷◌, ◌++◌, map}
use Rattle.std.proofs.Common.{min, length, length-append, length-take, take, slice_get, Option, Some, None, is_some}
use Rattle.std.proofs.Common.{inl, inr, refl, sym, cond, ◌==◌, eqb-true}
use Rattle.std.proofs.Common.{ap, subst, ◌∙◌, arith}
use Rattle.std.proofs.lemmas.Bool.{cases_Bool, false≢true, or_cases}
use Rattle.std.proofs.lemmas.List.{take_all}
use Rattle.std.proofs.lemmas.Option.{slice_get_within}
use Rattle.resolution_check.specs.declared.log.Lit.{Lit}
use Rattle.resolution_check.specs.declared.log.Clause.{Clause}
use Rattle.resolution_check.specs.Clauses.{has}
use Rattle.resolution_check.specs.Trails.{holds, AllFail}
use Rattle.resolution_check.proofs.Literals.{same_lit}
use Rattle.resolution_check.proofs.Values.{some_value}
use Rattle.clause_arena.specs.declared.names.ClauseRef.{ClauseRef}
use Rattle.clause_arena.specs.Links.{word}
use Rattle.mw_text.specs.Members.{In}
use Rattle.mw_text.proofs.Found.{take_at}
use Rattle.clause_arena.specs.Store.{Store, IsSound}
use Rattle.clause_arena.specs.Held.{clause_numbered, lits_of, code_of, clauses, held_in}
use Rattle.clause_arena.specs.Changes.{Adds}
use Rattle.clause_arena.proofs.Settling.{in_split}
use Rattle.conflict_analysis.specs.Steps.{IsTrail, NeverFalls, OpensLevel}
use Rattle.conflict_analysis.specs.Levels.{AreFull, count_to, level_of}
use Rattle.conflict_analysis.specs.Lessons.{IsPointed}
use Rattle.conflict_analysis.proofs.Levels.{level_there, step_there}
use Rattle.conflict_analysis.proofs.Marked.{has_at}
use Rattle.std.specs.Prelude.{⊤, slice_index_or}
use Rattle.watched_search.specs.Trails.{last_level}
use Rattle.watched_search.specs.Watches.{literal, Extends, IsKept, IsSameView}
use Rattle.watched_search.specs.Starts.{AreBelow, OnesHold, numbered_from}
use Rattle.watched_search.proofs.Back.{count_is}
use Rattle.watched_search.proofs.Learnt.{new_size, same_literal}
use Rattle.watched_search.proofs.Steps.{last_highest, word_last}
use Rattle.watched_search.proofs.Visits.{holds_append}

-- ---- levels

-- one step more at the last level leaves it the last
pub last_push : (levels : List ℕ) (n : ℕ) → last_level (levels ++ n ∷ []) ≡ n
last_push levels n =
    let long : length (levels ++ n ∷ []) ≡ length levels + 1 = length-append levels (n ∷ []) in
    let at : length (levels ++ n ∷ []) - 1 ≡ length levels = omega arith in
    ap (word (levels ++ n ∷ [])) at ∙ word_last levels n

module _ (levels : List ℕ) (rising : NeverFalls levels) (low : last_level levels ≡ 0) where
  all_low : (j : ℕ) → j < length levels → word levels j ≡ 0
  all_low j less = (let h : word levels j ≤ last_level levels = last_highest levels j rising less in omega arith)

  none_opens : (at : ℕ) → at < length levels → OpensLevel levels at → ⊥
  none_opens at less o =
      let e : word levels at ≡ 0 = all_low at less in let h : 0 < word levels at = o.above in absurd (omega arith)

  all_counted : length levels ≡ count_to levels 0
  all_counted = count_is levels 0 (length levels) (omega arith)
      (λ j less. (let e : word levels j ≡ 0 = all_low j less in omega arith)) (λ less. absurd (omega arith))

  -- before the first decision nothing is owed of decisions
  pub ground_full : (a : Store) (lits : List Lit) → AreFull a lits levels
  ground_full a lits at id c less o held = absurd (none_opens at less o)

  -- what is kept at level 0 where no literal was looked at
  pub ground_kept : (a : Store) (lits : List Lit) → length levels ≡ length lits
      → ((r : ℕ) → In r a.refs → 1 ≤ word a.words r) → OnesHold a lits → IsKept a lits levels 0
  ground_kept a lits len filled ones =
      let count : length levels ≡ count_to levels 0 = all_counted in
      record {
        filled = filled;
        ones = λ r i one. ap (λ ls. holds ls (literal a r 0)) (take_all (count_to levels 0) lits (omega arith))
            ∙ ones r i one;
        before = λ at less o. absurd (none_opens at less o);
        now = λ r side i two small falls. absurd (false≢true falls);
        low = λ at less. (let e : word levels at ≡ 0 = all_low at less in omega arith);
      }

  -- a false clause at level 0 teaches the empty clause
  pub ground_empty : (a : Store) (lits clause learnt : List Lit) (chain : List ℕ) → length levels ≡ length lits
      → AllFail lits clause → IsPointed a lits levels clause learnt chain → learnt ≡ []
  ground_empty a lits clause learnt chain len falls p = by p.top refl
    where
      by : (top : ℕ) → p.top ≡ top → learnt ≡ []
      by zero e = p.ground e
      by (suc n) e =
          let some = p.reached (omega arith) in
          let l = some.0 in
          let step = step_there lits l.var (some_value _ _ (falls l some.1)) in
          let less : step.0 < length lits = step.1 in
          let level : level_of lits levels l.var ≡ word levels step.0 =
          level_there lits levels l.var step.0 len step.2 in
          let ground : word levels step.0 ≡ 0 = all_low step.0 (omega arith) in
          let top : level_of lits levels l.var ≡ p.top = some.2 in absurd (omega arith)

-- ---- one clause more

module _ (old new : Store) (r id : ℕ) (clause : List Lit) (sound : IsSound old.vars old.words old.refs)
    (sound_new : IsSound new.vars new.words new.refs) (ad : Adds old new r id (map code_of clause))
    (grown : clauses new ≡ clauses old ++ (id, clause) ∷ []) where
  one_of : (s : ℕ) → In s new.refs → In s old.refs ⊎ (s ≡ r)
  one_of s i = in_split s r old.refs (subst (λ (rs : List ℕ). In s rs) ad.refs i)

  pub filled_added : 0 < length clause → ((s : ℕ) → In s old.refs → 1 ≤ word old.words s) → (s : ℕ) → In s new.refs
      → 1 ≤ word new.words s
  filled_added some filled s i =
      let size : word new.words r ≡ length clause = new_size old new r id clause sound sound_new ad grown in
      elim (one_of s i) [
        | inl j ↦
            let same : word new.words s ≡ word old.words s = (ad.kept s j).size in
            let h : 1 ≤ word old.words s = filled s j in omega arith
        | inr e ↦ subst (λ (q : ℕ). 1 ≤ word new.words q) (sym e) (omega arith)
      ]

  pub ones_added : (lits more : List Lit) → Extends lits more → OnesHold old lits
      → (length clause ≡ 1 → holds more (literal new r 0) ≡ true) → OnesHold new more
  ones_added lits more x ones own s i one =
      let size : word new.words r ≡ length clause = new_size old new r id clause sound sound_new ad grown in
      elim (one_of s i) [
        | inl j ↦
            let same : word new.words s ≡ word old.words s = (ad.kept s j).size in
            ap (λ ls. holds ls (literal new s 0)) x.is
            ∙ holds_append lits x.more (literal new s 0)
            (ap (holds lits) (same_literal old new r id clause sound sound_new ad grown s 0 j (omega arith))
            ∙ ones s j (omega arith))
        | inr e ↦
            let alone : word new.words r ≡ 1 = ap (word new.words) (sym e) ∙ one in
            ap (λ q. holds more (literal new q 0)) e ∙ own (omega arith)
      ]

-- ---- numbers

-- a clause more under the next number
pub below_added : (old new : Store) (r id : ℕ) (codes : List ℕ) → Adds old new r id codes → AreBelow old id
    → AreBelow new (id + 1)
below_added old new r id codes ad below c i =
    elim (in_split c.0 r old.refs (subst (λ (rs : List ℕ). In c.0 rs) ad.refs i)) [
      | inl j ↦
          let same : word new.words (c.0 + 1) ≡ word old.words (c.0 + 1) = (ad.kept c.0 j).number in
          let h : word old.words (c.0 + 1) < id = below c j in omega arith
      | inr e ↦
          let own : word new.words (c.0 + 1) ≡ id = ap (λ q. word new.words (q + 1)) e ∙ ad.number in omega arith
    ]

-- while watches move, numbers stay
pub below_same : (old new : Store) (next : ℕ) → IsSameView old new → AreBelow old next → AreBelow new next
below_same old new next v below c i =
    let j : In c.0 old.refs = subst (λ (rs : List ℕ). In c.0 rs) v.refs i in
    let same : word new.words (c.0 + 1) ≡ word old.words (c.0 + 1) = v.numbers c.0 j in
    let h : word old.words (c.0 + 1) < next = below c j in omega arith

none_of_none : {X Y : Type 0} (f : X → Y) (xs : List X) → map f xs ≡ [] → xs ≡ []
none_of_none f [] e = refl
none_of_none f (x ∷ xs) e = absurd (cc)

-- no clause is held
pub none_held : (a : Store) → clauses a ≡ [] → (r : ℕ) → In r a.refs → ⊥
none_held a none r i =
    let f : ℕ → (ℕ × List Lit) = λ s. (word a.words (s + 1), lits_of a s) in
    let e : a.refs ≡ [] = none_of_none (λ (s : ℕ). (word a.words (s + 1), lits_of a s)) a.refs none in
    subst (λ (rs : List ℕ). In r rs) e i

-- one clause more, numbered by its place
pub numbered_push : (id : ℕ) (cs : List Clause) (c : Clause)
    → numbered_from id (cs ++ c ∷ []) ≡ numbered_from id cs ++ (id + length cs, c.lits) ∷ []
numbered_push id [] c = ap (λ n. (n, c.lits) ∷ []) (omega arith)
numbered_push id (d ∷ cs) c =
    let n : id + 1 + length cs ≡ id + length (d ∷ cs) = omega arith in
    ap (λ rest. (id, d.lits) ∷ rest)
    (numbered_push (id + 1) cs c ∙ ap (λ k. numbered_from (id + 1) cs ++ (k, c.lits) ∷ []) n)

-- ---- a clause of one literal

pub only_has : (l : Lit) → has (l ∷ []) l ≡ true
only_has l = has_at (l ∷ []) 0 l refl

pub only_is : (k l : Lit) → has (l ∷ []) k ≡ true → k ≡ l
only_is k l h = elim (or_cases _ _ h) [ inl here ↦ same_lit k l here | inr later ↦ absurd (false≢true later) ]

pub one_alone : (c : List Lit) → length c ≡ 1 → c ≡ slice_index_or c 0 (record { var = 0; negated = false }) ∷ []
one_alone [] one = absurd (omega arith)
one_alone (l ∷ []) one = refl
one_alone (l ∷ k ∷ c) one = absurd (omega arith)

-- ---- before the first input

pub trail_empty : (a : Store) (vars : ℕ) (lits : List Lit) (levels : List ℕ) (reasons : List (Option ClauseRef))
    → lits ≡ [] → levels ≡ [] → reasons ≡ [] → IsTrail a vars lits levels reasons
trail_empty a vars (l ∷ ls) ns rs x y z = absurd (cc)
trail_empty a vars [] (n ∷ ns) rs x y z = absurd (cc)
trail_empty a vars [] [] (r ∷ rs) x y z = absurd (cc)
trail_empty a vars [] [] [] x y z = record {
  level_count = refl;
  reason_count = refl;
  below = refl;
  fresh = λ at l there. (let less = slice_get_within {A = Lit} [] at l there in absurd (omega arith));
  rising = λ j k low less. absurd (omega arith);
  forced = λ at l c there is. (let less = slice_get_within {A = Lit} [] at l there in absurd (omega arith));
  opens = λ at is. (let less = slice_get_within {A = Option ClauseRef} [] at None is in absurd (omega arith));
  chosen = λ at less o. absurd (omega arith);
}

-- the inputs up to one more
pub numbered_next : (cs : List Clause) (at : ℕ) (c : Clause) → slice_get cs at ≡ Some c
    → numbered_from 1 (take (at + 1) cs) ≡ numbered_from 1 (take at cs) ++ (at + 1, c.lits) ∷ []
numbered_next cs at c there =
    let within : at < length cs = slice_get_within cs at c there in
    let short : length (take at cs) ≡ min at (length cs) = length-take at cs in
    let n : 1 + length (take at cs) ≡ at + 1 = omega arith in
    ap (numbered_from 1) (take_at cs at c there) ∙ numbered_push 1 (take at cs) c
    ∙ ap (λ k. numbered_from 1 (take at cs) ++ (k, c.lits) ∷ []) n

-- what is not there is none
pub none_found : (o : Option ClauseRef) → is_some o ≡ false → o ≡ None
none_found None h = refl
none_found (Some x) h = absurd (false≢true (sym h))

-- each number is below this one
abbrev AllUnder : ℕ → List (ℕ × List Lit) → Type 0
AllUnder n [] = ⊤
AllUnder n (x ∷ xs) = (x.0 < n) × AllUnder n xs

under_from : (f : ℕ → (ℕ × List Lit)) (refs : List ℕ) (n : ℕ) → ((r : ℕ) → In r refs → (f r).0 < n)
    → AllUnder n (map f refs)
under_from f [] n low = tt
under_from f (r ∷ refs) n low = (low r (inl refl), under_from f refs n (λ s i. low s (inr i)))

under_at : (f : ℕ → (ℕ × List Lit)) (refs : List ℕ) (n r : ℕ) → AllUnder n (map f refs) → In r refs → (f r).0 < n
under_at f [] n r all i = absurd i
under_at f (s ∷ refs) n r all (inl e) = subst (λ (k : ℕ). (f k).0 < n) (sym e) all.0
under_at f (s ∷ refs) n r all (inr i) = under_at f refs n r all.1 i

under_push : (xs : List (ℕ × List Lit)) (n : ℕ) (lits : List Lit) → AllUnder n xs
    → AllUnder (n + 1) (xs ++ (n, lits) ∷ [])
under_push [] n lits all = (omega arith, tt)
under_push (x ∷ xs) n lits all = ((let h : x.0 < n = all.0 in omega arith), under_push xs n lits all.1)

-- one clause more under this number
pub below_grown : (old new : Store) (id : ℕ) (lits : List Lit) → clauses new ≡ clauses old ++ (id, lits) ∷ []
    → AreBelow old id → AreBelow new (id + 1)
below_grown old new id lits grown below c i =
    let f : ℕ → (ℕ × List Lit) = λ s. (word old.words (s + 1), lits_of old s) in
    let g : ℕ → (ℕ × List Lit) = λ s. (word new.words (s + 1), lits_of new s) in
    under_at (λ (s : ℕ). (word new.words (s + 1), lits_of new s)) new.refs (id + 1) c.0
    (subst (λ (xs : List (ℕ × List Lit)). AllUnder (id + 1) xs) (sym grown)
    (under_push (clauses old) id lits
    (under_from (λ (s : ℕ). (word old.words (s + 1), lits_of old s)) old.refs id
    (λ r j. below (record { 0 = r }) j)))) i

under_numbered : (xs : List (ℕ × List Lit)) (n k : ℕ) (c : Clause) → AllUnder n xs → clause_numbered xs k ≡ Some c
    → k < n
under_numbered [] n k c all h = absurd (cc)
under_numbered (x ∷ xs) n k c all h = elim (cases_Bool (x.0 == k)) [
  | inl here ↦ (let e : x.0 ≡ k = eqb-true x.0 k here in let low : x.0 < n = all.0 in omega arith)
  | inr other ↦ under_numbered xs n k c all.1
      (sym (ap (λ b. cond b (Some (record { lits = x.1 })) (clause_numbered xs k)) other) ∙ h)
]

-- the number of a clause that is held is below the next one
pub held_below : (a : Store) (next k : ℕ) (c : Clause) → AreBelow a next → held_in a k ≡ Some c → k < next
held_below a next k c below h =
    under_numbered (clauses a) next k c
    (under_from (λ (s : ℕ). (word a.words (s + 1), lits_of a s)) a.refs next (λ r j. below (record { 0 = r }) j)) h

-- the number of an input is at most their count
pub input_below : (id k : ℕ) (cs : List Clause) (c : Clause) → clause_numbered (numbered_from id cs) k ≡ Some c
    → k < id + length cs
input_below id k cs c h = under_numbered (numbered_from id cs) (id + length cs) k c (each id cs) h
  where
    each : (n : ℕ) (ds : List Clause) → AllUnder (n + length ds) (numbered_from n ds)
    each n [] = tt
    each n (d ∷ ds) =
        let long : (n + 1) + length ds ≡ n + length (d ∷ ds) = omega arith in
        (omega arith, subst (λ (m : ℕ). AllUnder m (numbered_from (n + 1) ds)) long (each (n + 1) ds))
