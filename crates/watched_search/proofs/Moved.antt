-- The move of a watch to a literal that is not false: the trail follows as before, and the watches are kept.
use Rattle.std.proofs.Common.{◌≡◌, ◌≢◌, ℕ, ◌-◌, ◌<◌, ◌≤◌, true, false, List, take, Option, inl, inr}
use Rattle.std.proofs.Common.{refl, sym, ap, subst, ◌∙◌, arith}
use Rattle.std.proofs.lemmas.Bool.{cases_eq, false≢true}
use Rattle.resolution_check.specs.declared.log.Lit.{Lit}
use Rattle.resolution_check.specs.Clauses.{opposite, has}
use Rattle.resolution_check.specs.Trails.{holds, fails}
use Rattle.resolution_check.proofs.Values.{not_both}
use Rattle.resolution_check.proofs.Variables.{same_bool}
use Rattle.clause_arena.specs.declared.names.ClauseRef.{ClauseRef}
use Rattle.clause_arena.specs.declared.names.Watch.{Watch}
use Rattle.clause_arena.specs.Links.{word}
use Rattle.mw_text.specs.Members.{In}
use Rattle.clause_arena.specs.Store.{Store, IsSound}
use Rattle.clause_arena.specs.Held.{lit_of, lits_of}
use Rattle.clause_arena.specs.Moved.{Moves}
use Rattle.conflict_analysis.specs.Steps.{IsForcedBy, IsTrail}
use Rattle.conflict_analysis.specs.Levels.{steps_to}
use Rattle.conflict_analysis.proofs.Followed.{front_fails}
use Rattle.watched_search.specs.Watches.{literal, AreWatched, IsKept, IsSameView}
use Rattle.watched_search.proofs.Visits.{literal_at, literal_in}

pub view_same : (a : Store) → IsSameView a a
view_same a = record { vars = refl; refs = refl; numbers = λ r i. refl; literals = λ r l i. refl }

pub view_then : (old middle new : Store) → IsSameView old middle → IsSameView middle new → IsSameView old new
view_then old middle new first second = record {
  vars = second.vars ∙ first.vars;
  refs = second.refs ∙ first.refs;
  numbers = λ r i. second.numbers r (subst (λ (rs : List ℕ). In r rs) (sym first.refs) i) ∙ first.numbers r i;
  literals = λ r l i. second.literals r l (subst (λ (rs : List ℕ). In r rs) (sym first.refs) i) ∙ first.literals r l i;
}

-- the literal at a place is one of those before
pub record IsFrom (old new : Store) (r j : ℕ) : Type 0 where
  pub place : ℕ
  pub within : place < word old.words r
  pub same : literal new r j ≡ literal old r place

module _ (old new : Store) (before : Option Watch) (w : Watch) (to : ℕ) (sound : IsSound old.vars old.words old.refs)
    (sound_new : IsSound new.vars new.words new.refs) (mv : Moves old new before w to)
    (held : In w.clause.0 old.refs) (low : w.side < 2) (high : 2 ≤ to) (within : to < word old.words w.clause.0) where
  -- a literal at a place that was not exchanged
  pub still : (r k : ℕ) → In r old.refs → k < word old.words r → (r ≡ w.clause.0 → k ≢ w.side)
      → (r ≡ w.clause.0 → k ≢ to) → literal new r k ≡ literal old r k
  still r k i less off_side off_to = ap lit_of (mv.codes r k i less off_side off_to)

  one : (r k : ℕ) → r ≡ w.clause.0 → k ≡ w.side → literal new r k ≡ literal old w.clause.0 to
  one r k e f = ap (λ (s : ℕ). literal new s k) e ∙ ap (literal new w.clause.0) f ∙ ap lit_of mv.one

  other : (r k : ℕ) → r ≡ w.clause.0 → k ≡ to → literal new r k ≡ literal old w.clause.0 w.side
  other r k e f = ap (λ (s : ℕ). literal new s k) e ∙ ap (literal new w.clause.0) f ∙ ap lit_of mv.other

  at_ref : (r k : ℕ) → r ≡ w.clause.0 → literal old w.clause.0 k ≡ literal old r k
  at_ref r k e = ap (λ (s : ℕ). literal old s k) (sym e)

  size_at : (r k : ℕ) → r ≡ w.clause.0 → k < word old.words w.clause.0 → k < word old.words r
  size_at r k e less = subst (λ (s : ℕ). k < word old.words s) (sym e) less

  -- each literal now was one before
  from_old : (r j : ℕ) → In r old.refs → j < word old.words r → IsFrom old new r j
  from_old r j i less = elim (cases_eq r w.clause.0) [
    | inr ne ↦ record {
      place = j;
      within = less;
      same = still r j i less (λ e. absurd (ne e)) (λ e. absurd (ne e));
    }
    | inl e ↦ elim (cases_eq j w.side) [
      | inl f ↦ record { place = to; within = size_at r to e within; same = one r j e f ∙ at_ref r to e }
      | inr off_side ↦ elim (cases_eq j to) [
        | inl f ↦ record {
          place = w.side;
          within = size_at r w.side e (omega arith);
          same = other r j e f ∙ at_ref r w.side e;
        }
        | inr off_to ↦ record {
          place = j;
          within = less;
          same = still r j i less (λ g. off_side) (λ g. off_to);
        }
      ]
    ]
  ]

  -- and each literal before is one now
  to_new : (r j : ℕ) → In r old.refs → j < word old.words r
      → (k : ℕ) × (k < word old.words r) × (literal new r k ≡ literal old r j)
  to_new r j i less = elim (cases_eq r w.clause.0) [
    | inr ne ↦ (j, less, still r j i less (λ e. absurd (ne e)) (λ e. absurd (ne e)))
    | inl e ↦ elim (cases_eq j w.side) [
      | inl f ↦ (
        to,
        size_at r to e within,
        other r to e refl ∙ at_ref r w.side e ∙ ap (literal old r) (sym f),
      )
      | inr off_side ↦ elim (cases_eq j to) [
        | inl f ↦ (
          w.side,
          size_at r w.side e (omega arith),
          one r w.side e refl ∙ at_ref r to e ∙ ap (literal old r) (sym f),
        )
        | inr off_to ↦ (j, less, still r j i less (λ g. off_side) (λ g. off_to))
      ]
    ]
  ]

  in_new : (r : ℕ) → In r old.refs → In r new.refs
  in_new r i = subst (λ (rs : List ℕ). In r rs) (sym mv.refs) i

  in_old : (r : ℕ) → In r new.refs → In r old.refs
  in_old r i = subst (λ (rs : List ℕ). In r rs) mv.refs i

  -- so a clause has the same literals
  pub same_literals : (r : ℕ) (l : Lit) → In r old.refs → has (lits_of new r) l ≡ has (lits_of old r) l
  same_literals r l i =
      let size : word new.words r ≡ word old.words r = mv.sizes r i in
      same_bool (has (lits_of new r) l) (has (lits_of old r) l)
      (λ h.
      let at = literal_at new sound_new r (in_new r i) l h in
      let less : at.0 < word new.words r = at.1 in
      let was = from_old r at.0 i (omega arith) in
      subst (λ (k : Lit). has (lits_of old r) k ≡ true) (sym was.same ∙ at.2)
      (literal_in old sound r i was.place was.within))
      (λ h.
      let at = literal_at old sound r i l h in
      let is = to_new r at.0 i at.1 in
      let less : is.0 < word old.words r = is.1 in
      subst (λ (k : Lit). has (lits_of new r) k ≡ true) (is.2 ∙ at.2)
      (literal_in new sound_new r (in_new r i) is.0 (omega arith)))

  pub view_moved : IsSameView old new
  view_moved = record {
    vars = mv.vars;
    refs = mv.refs;
    numbers = mv.numbers;
    literals = same_literals;
  }

  forced_moved : (ls : List Lit) (l : Lit) (c : ClauseRef) → IsForcedBy old ls l c → IsForcedBy new ls l c
  forced_moved ls l c f = record {
    held = in_new c.0 f.held;
    inside = same_literals c.0 l f.held ∙ f.inside;
    others = λ k h. f.others k (sym (same_literals c.0 k f.held) ∙ h);
  }

  pub trail_moved : (vars : ℕ) (lits : List Lit) (levels : List ℕ) (reasons : List (Option ClauseRef))
      → IsTrail old vars lits levels reasons → IsTrail new vars lits levels reasons
  trail_moved vars lits levels reasons t = record {
    level_count = t.level_count;
    reason_count = t.reason_count;
    below = t.below;
    fresh = t.fresh;
    rising = t.rising;
    forced = λ at l c there is. forced_moved (take at lits) l c (t.forced at l c there is);
    opens = t.opens;
    chosen = t.chosen;
  }

  module _ (lits : List Lit) (own_false : fails lits (literal old w.clause.0 w.side) ≡ true)
      (not_false : fails lits (literal old w.clause.0 to) ≡ false) where
    watched_moved : (looked_at steps : List Lit) → ((l : Lit) → fails looked_at l ≡ true → fails lits l ≡ true)
        → ((l : Lit) → holds steps l ≡ true → holds lits l ≡ true)
        → AreWatched old looked_at steps → AreWatched new looked_at steps
    watched_moved looked_at steps more_false more_true watched r side i two small falls =
        let j = in_old r i in
        let size : word new.words r ≡ word old.words r = mv.sizes r j in
        elim (cases_eq r w.clause.0) [
          | inr ne ↦
              let e : literal new r side ≡ literal old r side =
              still r side j (omega arith) (λ g. absurd (ne g)) (λ g. absurd (ne g)) in
              let f : literal new r (1 - side) ≡ literal old r (1 - side) =
              still r (1 - side) j (omega arith) (λ g. absurd (ne g)) (λ g. absurd (ne g)) in
              ap (holds steps) f ∙ watched r side j (omega arith) small (ap (fails looked_at) (sym e) ∙ falls)
          | inl g ↦ elim (cases_eq side w.side) [
            | inl f ↦ absurd (false≢true (sym not_false
                ∙ more_false (literal old w.clause.0 to) (ap (fails looked_at) (sym (one r side g f)) ∙ falls)))
            | inr off ↦
                let e : literal new r side ≡ literal old r side =
                still r side j (omega arith) (λ h. off) (λ h. below_to side small) in
                let own : 1 - side ≡ w.side = omega arith in
                let is : literal old r (1 - side) ≡ literal old w.clause.0 w.side =
                ap (literal old r) own ∙ sym (at_ref r w.side g) in
                absurd (not_both lits (literal old w.clause.0 w.side) own_false
                (more_true (literal old w.clause.0 w.side) (ap (holds steps) (sym is)
                ∙ watched r side j (omega arith) small (ap (fails looked_at) (sym e) ∙ falls))))
          ]
        ]
      where
        below_to : (s : ℕ) → s < 2 → s ≢ to
        below_to s h e = absurd (omega arith)

    pub kept_moved : (levels : List ℕ) (looked_at : ℕ) → IsKept old lits levels looked_at
        → IsKept new lits levels looked_at
    kept_moved levels looked_at k = record {
      filled = λ r i.
          (let size : word new.words r ≡ word old.words r = mv.sizes r (in_old r i) in
          let some : 1 ≤ word old.words r = k.filled r (in_old r i) in omega arith);
      ones = λ r i is.
          (let j = in_old r i in
          let size : word new.words r ≡ word old.words r = mv.sizes r j in
          let own : word old.words r ≡ 1 = omega arith in
          let ne : r ≢ w.clause.0 = λ e. not_one r e own in
          ap (holds (steps_to lits levels 0))
          (still r 0 j (omega arith) (λ e. absurd (ne e)) (λ e. absurd (ne e)))
          ∙ k.ones r j own);
      before = λ at less o.
          watched_moved (take at lits) (take at lits) (λ l h. front_fails lits at l h)
          (λ l h. front_fails lits at (opposite l) h) (k.before at less o);
      low = k.low;
      now = watched_moved (take looked_at lits) lits (λ l h. front_fails lits looked_at l h) (λ l h. h) k.now;
    }
      where
        not_one : (r : ℕ) → r ≡ w.clause.0 → word old.words r ≡ 1 → ⊥
        not_one r e own =
            let same : word old.words w.clause.0 ≡ 1 = ap (word old.words) (sym e) ∙ own in absurd (omega arith)
