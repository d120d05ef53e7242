-- A learnt clause is held: the trail follows as before, and with its first literal the watches are kept.
use Rattle.std.proofs.Common.{◌≡◌, ℕ, zero, suc, ◌+◌, ◌-◌, ◌<◌, ◌≤◌, true, List, [], ◌∷◌, ◌++◌, map}
use Rattle.std.proofs.Common.{length, length-append, take, drop, take-append-drop, slice_get, Option, Some, None}
use Rattle.std.proofs.Common.{is_some, inl, inr, refl, sym, ap, subst, ◌∙◌, arith}
use Rattle.std.proofs.lemmas.Bool.{cases_lt, false≢true}
use Rattle.std.proofs.lemmas.List.{same_from_push, take-append-le, take_all}
use Rattle.std.proofs.lemmas.Option.{slice_get_within}
use Rattle.std.proofs.Math.Seq.{take-append_seam}
use Rattle.mw_text.proofs.Lists.{item_there}
use Rattle.resolution_check.specs.declared.log.Lit.{Lit}
use Rattle.resolution_check.specs.Clauses.{has}
use Rattle.resolution_check.specs.Trails.{value_of, holds, fails}
use Rattle.resolution_check.proofs.Values.{some_value, value_of-none}
use Rattle.clause_arena.specs.declared.names.ClauseRef.{ClauseRef}
use Rattle.clause_arena.specs.Links.{word}
use Rattle.mw_text.specs.Members.{In}
use Rattle.clause_arena.specs.Store.{Store, IsSound}
use Rattle.clause_arena.specs.Held.{lit_of, lits_of, code_of, clauses}
use Rattle.clause_arena.specs.Changes.{Adds}
use Rattle.clause_arena.proofs.Views.{clause_like, lits_listed, lits_count}
use Rattle.conflict_analysis.specs.Steps.{IsForcedBy, IsTrail, OpensLevel}
use Rattle.conflict_analysis.specs.Levels.{count_to, level_of, steps_to}
use Rattle.conflict_analysis.proofs.Levels.{step_of, level_there}
use Rattle.clause_arena.proofs.Settling.{in_end, in_front, in_split}
use Rattle.watched_search.specs.Trails.{last_level}
use Rattle.watched_search.specs.Watches.{literal, IsAsserting, IsKept}
use Rattle.watched_search.proofs.Back.{count_is}
use Rattle.watched_search.proofs.Steps.{last_highest, no_opening, opens_front, rising_push, word_last}
use Rattle.watched_search.proofs.Visits.{holds_last, kept_push}

map_push : {X Y : Type 0} (f : X → Y) (xs : List X) (x : X) → map f (xs ++ x ∷ []) ≡ map f xs ++ f x ∷ []
map_push f [] x = refl
map_push f (y ∷ xs) x = ap (λ zs. f y ∷ zs) (map_push f xs x)

module _ (old new : Store) (r id : ℕ) (clause : List Lit) (sound : IsSound old.vars old.words old.refs)
    (sound_new : IsSound new.vars new.words new.refs) (ad : Adds old new r id (map code_of clause))
    (grown : clauses new ≡ clauses old ++ (id, clause) ∷ []) where
  pub held_still : (s : ℕ) → In s old.refs → In s new.refs
  held_still s i = subst (λ (rs : List ℕ). In s rs) (sym ad.refs) (in_front s r old.refs i)

  pub held_new : In r new.refs
  held_new = subst (λ (rs : List ℕ). In r rs) (sym ad.refs) (in_end r old.refs)

  -- a clause that was held is the same
  pub same_lits : (s : ℕ) → In s old.refs → lits_of new s ≡ lits_of old s
  same_lits s i =
      let same = ad.kept s i in
      ap (λ (c : ℕ × List Lit). c.1)
      (clause_like old.words new.words s s (sound.laid.inside s i) (sound_new.laid.inside s (held_still s i)) same.size
      same.number same.codes)

  pub same_literal : (s k : ℕ) → In s old.refs → k < word old.words s → literal new s k ≡ literal old s k
  same_literal s k i low = ap lit_of ((ad.kept s i).codes k low)

  -- the new one has these literals
  pub new_lits : lits_of new r ≡ clause
  new_lits =
      let f : ℕ → (ℕ × List Lit) = λ s. (word new.words (s + 1), lits_of new s) in
      let all : map (λ (s : ℕ). (word new.words (s + 1), lits_of new s)) old.refs
      ++ (word new.words (r + 1), lits_of new r) ∷ []
      ≡ clauses old ++ (id, clause) ∷ [] =
      sym (map_push (λ (s : ℕ). (word new.words (s + 1), lits_of new s)) old.refs r)
      ∙ ap (map (λ (s : ℕ). (word new.words (s + 1), lits_of new s))) (sym ad.refs) ∙ grown in
      ap (λ (c : ℕ × List Lit). c.1)
      (same_from_push (map (λ (s : ℕ). (word new.words (s + 1), lits_of new s)) old.refs) (clauses old)
      (word new.words (r + 1), lits_of new r) (id, clause) all).1

  pub new_size : word new.words r ≡ length clause
  new_size = sym (lits_count new.vars new.words new.refs r sound_new held_new) ∙ ap length new_lits

  pub new_literal : (k : ℕ) (l : Lit) → slice_get clause k ≡ Some l → literal new r k ≡ l
  new_literal k l there =
      let within : k < length clause = slice_get_within clause k l there in
      let size : word new.words r ≡ length clause = new_size in
      let is : slice_get (lits_of new r) k ≡ Some (literal new r k) =
      lits_listed new.vars new.words new.refs r k (word new.words (r + 4 + k)) sound_new held_new (omega arith) refl in
      let e : Some (literal new r k) ≡ Some l = sym is ∙ ap (λ ls. slice_get ls k) new_lits ∙ there in cc

  forced_added : (ls : List Lit) (l : Lit) (c : ClauseRef) → IsForcedBy old ls l c → IsForcedBy new ls l c
  forced_added ls l c f = record {
    held = held_still c.0 f.held;
    inside = ap (λ d. has d l) (same_lits c.0 f.held) ∙ f.inside;
    others = λ k h. f.others k (sym (ap (λ d. has d k) (same_lits c.0 f.held)) ∙ h);
  }

  pub trail_added : (vars : ℕ) (lits : List Lit) (levels : List ℕ) (reasons : List (Option ClauseRef))
      → IsTrail old vars lits levels reasons → IsTrail new vars lits levels reasons
  trail_added vars lits levels reasons t = record {
    level_count = t.level_count;
    reason_count = t.reason_count;
    below = t.below;
    fresh = t.fresh;
    rising = t.rising;
    forced = λ at l c there is. forced_added (take at lits) l c (t.forced at l c there is);
    opens = t.opens;
    chosen = t.chosen;
  }

  module _ (vars : ℕ) (lits : List Lit) (levels : List ℕ) (reasons : List (Option ClauseRef))
      (t : IsTrail old vars lits levels reasons) (k : IsKept old lits levels (length lits))
      (asserts : IsAsserting lits levels clause) where
    -- the new clause forces its first literal
    pub forced_first : (c : ClauseRef) → c.0 ≡ r → IsForcedBy new lits asserts.first c
    forced_first c e = record {
      held = subst (λ (s : ℕ). In s new.refs) (sym e) held_new;
      inside = ap (λ s. has (lits_of new s) asserts.first) e ∙ ap (λ d. has d asserts.first) new_lits
          ∙ asserts.unit.inside;
      others = λ l h. asserts.unit.others l
          (sym (ap (λ s. has (lits_of new s) l) e ∙ ap (λ d. has d l) new_lits) ∙ h);
    }

    free_before : (at : ℕ) → value_of (take at lits) asserts.first.var ≡ None
    free_before at =
        value_of-none (take at lits) (drop at lits) asserts.first.var
        (ap (λ ls. value_of ls asserts.first.var) (take-append-drop at lits) ∙ asserts.unit.free)

    first_free : (at : ℕ) → fails (take at lits) asserts.first ≡ true → ⊥
    first_free at h =
        false≢true (sym (ap is_some (free_before at)) ∙ some_value _ _ h)

    -- the second literal has no value before a step that opens a level
    second_free : (at : ℕ) (l : Lit) → slice_get clause 1 ≡ Some l → at < length levels → OpensLevel levels at
        → fails (take at lits) l ≡ true → ⊥
    second_free at l there low o h =
        let found = step_of lits at l.var (some_value _ _ h) in
        let early : found.0 < at = found.1 in
        let level : level_of lits levels l.var ≡ word levels found.0 =
        level_there lits levels l.var found.0 t.level_count found.2 in
        let own : level_of lits levels l.var ≡ last_level levels = asserts.second l there in
        let under : word levels found.0 < word levels at = o.first found.0 early in
        let high : word levels at ≤ last_level levels = last_highest levels at t.rising low in absurd (omega arith)

    is_first : literal new r 0 ≡ asserts.first
    is_first = new_literal 0 asserts.first asserts.there

    none_false : (at side : ℕ) → 2 ≤ length clause → side < 2 → at < length levels → OpensLevel levels at
        → fails (take at lits) (literal new r side) ≡ true → ⊥
    none_false at zero two small low o h = first_free at (ap (fails (take at lits)) (sym is_first) ∙ h)
    none_false at (suc zero) two small low o h =
        let y = item_there clause 1 (omega arith) in
        second_free at y.0 y.1 low o (ap (fails (take at lits)) (sym (new_literal 1 y.0 y.1)) ∙ h)
    none_false at (suc (suc side)) two small low o h = absurd (omega arith)

    now_true : (side : ℕ) → side < 2 → fails lits (literal new r side) ≡ true
        → holds (lits ++ asserts.first ∷ []) (literal new r (1 - side)) ≡ true
    now_true zero small h =
        absurd (first_free (length lits) (ap (λ ls. fails ls asserts.first) (take_all (length lits) lits (omega arith))
        ∙ ap (fails lits) (sym is_first) ∙ h))
    now_true (suc zero) small h =
        ap (holds (lits ++ asserts.first ∷ [])) is_first ∙ holds_last lits asserts.first asserts.unit.free
    now_true (suc (suc side)) small h = absurd (omega arith)

    -- at level 0 all steps are counted
    all_ground : length clause ≡ 1 → length (lits ++ asserts.first ∷ [])
        ≤ count_to (levels ++ last_level levels ∷ []) 0
    all_ground one =
        let n = last_level levels in
        let more = levels ++ last_level levels ∷ [] in
        let z : last_level levels ≡ 0 = asserts.alone one in
        let long : length (levels ++ last_level levels ∷ []) ≡ length levels + 1 =
        length-append levels (last_level levels ∷ []) in
        let long_lits : length (lits ++ asserts.first ∷ []) ≡ length lits + 1 =
        length-append lits (asserts.first ∷ []) in
        let at : length (levels ++ last_level levels ∷ []) - 1 ≡ length levels = omega arith in
        let top : last_level (levels ++ last_level levels ∷ []) ≡ last_level levels =
        ap (word (levels ++ last_level levels ∷ [])) at ∙ word_last levels (last_level levels) in
        let count : length (levels ++ last_level levels ∷ []) ≡ count_to (levels ++ last_level levels ∷ []) 0 =
        count_is more 0 (length more) (omega arith)
        (λ j less. (let h : word (levels ++ last_level levels ∷ []) j ≤ last_level (levels ++ last_level levels ∷ []) =
        last_highest more j (rising_push levels n t.rising (omega arith)) less in omega arith))
        (λ less. absurd (omega arith)) in
        let same : length levels ≡ length lits = t.level_count in omega arith

    -- the clause is held, its first literal is true, and the watches are kept
    pub kept_learnt : IsKept new (lits ++ asserts.first ∷ []) (levels ++ last_level levels ∷ []) (length lits)
    kept_learnt =
        let x = asserts.first in
        let n = last_level levels in
        let kp = kept_push old lits levels (length lits) asserts.first (last_level levels) t.level_count (omega arith)
        refl k in
        let size : word new.words r ≡ length clause = new_size in
        let some : 0 < length clause = slice_get_within clause 0 asserts.first asserts.there in
        record {
          filled = λ s i. elim (in_split s r old.refs (subst (λ (rs : List ℕ). In s rs) ad.refs i)) [
            | inl j ↦
                let same : word new.words s ≡ word old.words s = (ad.kept s j).size in
                let h : 1 ≤ word old.words s = kp.filled s j in omega arith
            | inr e ↦ subst (λ (q : ℕ). 1 ≤ word new.words q) (sym e) (omega arith)
          ];
          ones = λ s i one. elim (in_split s r old.refs (subst (λ (rs : List ℕ). In s rs) ad.refs i)) [
            | inl j ↦
                let same : word new.words s ≡ word old.words s = (ad.kept s j).size in
                ap (holds (steps_to (lits ++ asserts.first ∷ []) (levels ++ last_level levels ∷ []) 0))
                (same_literal s 0 j (omega arith))
                ∙ kp.ones s j (omega arith)
            | inr e ↦
                let own : word new.words r ≡ 1 = ap (word new.words) (sym e) ∙ one in
                let alone : length clause ≡ 1 = omega arith in
                ap (λ ls. holds ls (literal new s 0))
                (take_all (count_to (levels ++ last_level levels ∷ []) 0) (lits ++ asserts.first ∷ [])
                (all_ground alone))
                ∙ ap (λ q. holds (lits ++ asserts.first ∷ []) (literal new q 0)) e
                ∙ ap (holds (lits ++ asserts.first ∷ [])) is_first
                ∙ holds_last lits asserts.first asserts.unit.free
          ];
          low = kp.low;
          before = λ at less o s side i two low falls.
              elim (in_split s r old.refs (subst (λ (rs : List ℕ). In s rs) ad.refs i)) [
                | inl j ↦
                    let same : word new.words s ≡ word old.words s = (ad.kept s j).size in
                    ap (holds (take at (lits ++ asserts.first ∷ []))) (same_literal s (1 - side) j (omega arith))
                    ∙ kp.before at less o s side j (omega arith) low
                    (ap (fails (take at (lits ++ asserts.first ∷ []))) (sym (same_literal s side j (omega arith)))
                    ∙ falls)
                | inr e ↦ absurd (early at less o s side e two low falls)
              ];
          now = λ s side i two low falls.
              elim (in_split s r old.refs (subst (λ (rs : List ℕ). In s rs) ad.refs i)) [
                | inl j ↦
                    let same : word new.words s ≡ word old.words s = (ad.kept s j).size in
                    ap (holds (lits ++ asserts.first ∷ [])) (same_literal s (1 - side) j (omega arith))
                    ∙ kp.now s side j (omega arith) low
                    (ap (fails (take (length lits) (lits ++ asserts.first ∷ [])))
                    (sym (same_literal s side j (omega arith))) ∙ falls)
                | inr e ↦
                    ap (λ q. holds (lits ++ asserts.first ∷ []) (literal new q (1 - side))) e
                    ∙ now_true side low
                    (ap (λ ls. fails ls (literal new r side)) (sym (take-append_seam lits (asserts.first ∷ [])))
                    ∙ ap (λ q. fails (take (length lits) (lits ++ asserts.first ∷ [])) (literal new q side)) (sym e)
                    ∙ falls)
              ];
        }
      where
        early : (at : ℕ) → at < length (levels ++ last_level levels ∷ [])
            → OpensLevel (levels ++ last_level levels ∷ []) at → (s side : ℕ) → s ≡ r → 2 ≤ word new.words s → side < 2
            → fails (take at (lits ++ asserts.first ∷ [])) (literal new s side) ≡ true → ⊥
        early at less o s side e two low falls =
            let long : length (levels ++ last_level levels ∷ []) ≡ length levels + 1 =
            length-append levels (last_level levels ∷ []) in
            let same : length levels ≡ length lits = t.level_count in
            let size : word new.words r ≡ length clause = new_size in
            let own : word new.words s ≡ word new.words r = ap (word new.words) e in
            elim (cases_lt at (length levels)) [
              | inl front ↦ none_false at side (omega arith) low front
                  (opens_front levels (last_level levels) at front o)
                  (ap (λ ls. fails ls (literal new r side))
                  (sym (take-append-le at lits (asserts.first ∷ []) (omega arith)))
                  ∙ ap (λ q. fails (take at (lits ++ asserts.first ∷ [])) (literal new q side)) (sym e) ∙ falls)
              | inr last ↦
                  let f : at ≡ length levels = omega arith in
                  no_opening levels (last_level levels) refl
                  (subst (OpensLevel (levels ++ last_level levels ∷ [])) f o)
            ]
