-- What the deletion of a clause leaves of the arena, the trail and the watches.
use Rattle.std.proofs.Common.{◌≡◌, ◌≢◌, ℕ, zero, suc, ◌+◌, ◌-◌, ◌<◌, ◌≤◌, ◌^◌, ◌==◌, true, false, cond, List, []}
use Rattle.std.proofs.Common.{◌∷◌, length}
use Rattle.std.proofs.Common.{Option, Some, None, filter, not, refl, sym, ap, subst, ◌∙◌, arith, inl, inr}
use Rattle.std.proofs.Common.{eqb-true}
use Rattle.std.proofs.lemmas.Bool.{cases_Bool, ne_eqb}
use Rattle.resolution_check.specs.declared.log.Lit.{Lit}
use Rattle.resolution_check.specs.declared.log.Clause.{Clause}
use Rattle.resolution_check.specs.Clauses.{has}
use Rattle.resolution_check.specs.declared.log.Entry.TheVariants.{Delete}
use Rattle.resolution_check.specs.Text.{HasText}
use Rattle.watched_search.proofs.Starts.{held_below}
use Rattle.resolution_check.specs.Trails.{holds, fails}
use Rattle.clause_arena.specs.declared.names.ClauseRef.{ClauseRef}
use Rattle.clause_arena.specs.Links.{word}
use Rattle.mw_text.specs.Members.{In}
use Rattle.clause_arena.specs.Store.{Store, IsSound}
use Rattle.clause_arena.specs.Held.{clause_numbered, clauses, held_in, lit_of, lits_of, number_of}
use Rattle.clause_arena.specs.Deleted.{Deletes}
use Rattle.clause_arena.proofs.Unlinks.{in_filter, other_of}
use Rattle.clause_arena.proofs.Views.{clause_like, lits_listed}
use Rattle.conflict_analysis.specs.Steps.{IsTrail}
use Rattle.conflict_analysis.specs.Levels.{steps_to}
use Rattle.conflict_analysis.proofs.Marked.{has_at}
use Rattle.watched_search.specs.Starts.{AreBelow}
use Rattle.watched_search.specs.Trails.{Assigned}
use Rattle.watched_search.specs.Watches.{AreWatched, IsKept, literal}
use Rattle.watched_search.proofs.Settled.{same_code}
use Rattle.cdcl_search.specs.Going.{IsGoing, IsReady}
use Rattle.cdcl_search.specs.Reductions.{GoesOnReduced, IsNoReason, KeepsBelow, MayGo}

module _ (old new : Store) (r : ℕ) (d : Deletes old new r) where
  still : (s : ℕ) → In s new.refs → In s old.refs × (s ≢ r)
  still s i = other_of r s old.refs (subst (λ (rs : List ℕ). In s rs) d.refs i)

  watched_fewer : (looked_at steps : List Lit) → AreWatched old looked_at steps → AreWatched new looked_at steps
  watched_fewer looked_at steps w s side i two low falls =
      let size : word new.words s ≡ word old.words s = (d.kept s i).size in
      let own : literal new s side ≡ literal old s side = ap lit_of ((d.kept s i).codes side (omega arith)) in
      let other : literal new s (1 - side) ≡ literal old s (1 - side) =
      ap lit_of ((d.kept s i).codes (1 - side) (omega arith)) in
      ap (holds steps) other
      ∙ w s side (still s i).0 (omega arith) low (sym (ap (fails looked_at) own) ∙ falls)

  -- the watches of the other clauses are kept
  kept_fewer : (steps : List Lit) (levels : List ℕ) (head : ℕ) → IsKept old steps levels head
      → IsKept new steps levels head
  kept_fewer steps levels head k = record {
    filled = λ s i.
        (let size : word new.words s ≡ word old.words s = (d.kept s i).size in
        let some : 1 ≤ word old.words s = k.filled s (still s i).0 in omega arith);
    ones = λ s i one.
        (let size : word new.words s ≡ word old.words s = (d.kept s i).size in
        let was : word old.words s ≡ 1 = sym size ∙ one in
        let own : literal new s 0 ≡ literal old s 0 = ap lit_of ((d.kept s i).codes 0 (omega arith)) in
        ap (holds (steps_to steps levels 0)) own ∙ k.ones s (still s i).0 was);
    before = λ at low opens. watched_fewer _ _ (k.before at low opens);
    now = watched_fewer _ _ k.now;
    low = k.low;
  }

  -- numbers stay
  below_fewer : (next : ℕ) → AreBelow old next → AreBelow new next
  below_fewer next below c i =
      let same : word new.words (c.0 + 1) ≡ word old.words (c.0 + 1) = (d.kept c.0 i).number in
      let low : word old.words (c.0 + 1) < next = below c (still c.0 i).0 in omega arith

  module _ (sound : IsSound old.vars old.words old.refs) (sound_new : IsSound new.vars new.words new.refs) where
    same_lits : (s : ℕ) → In s new.refs → lits_of new s ≡ lits_of old s
    same_lits s i =
        let k = d.kept s i in
        ap (λ (x : ℕ × List Lit). x.1)
        (clause_like old.words new.words s s (sound.laid.inside s (still s i).0) (sound_new.laid.inside s i) k.size
        k.number k.codes)

    -- no reason is deleted
    trail_fewer : (vars : ℕ) (lits : List Lit) (levels : List ℕ) (reasons : List (Option ClauseRef)) (c : ClauseRef)
        → c.0 ≡ r → IsNoReason c reasons → IsTrail old vars lits levels reasons → IsTrail new vars lits levels reasons
    trail_fewer vars lits levels reasons c is none t = record {
      level_count = t.level_count;
      reason_count = t.reason_count;
      below = t.below;
      fresh = t.fresh;
      rising = t.rising;
      forced = λ at l e there because.
          (let f = t.forced at l e there because in
          let apart : e.0 ≢ r =
          λ same. none at (because ∙ ap (λ (n : ℕ). Some (Some (record { 0 = n }))) (same ∙ sym is)) in
          let remains : not (e.0 == r) ≡ true = ap not (ne_eqb e.0 r apart) in
          let held : In e.0 new.refs =
          subst (λ (rs : List ℕ). In e.0 rs) (sym d.refs)
          (in_filter (λ s. not (s == r)) e.0 old.refs f.held remains) in
          record {
            held = held;
            inside = ap (λ ls. has ls l) (same_lits e.0 held) ∙ f.inside;
            others = λ k h. f.others k (sym (ap (λ ls. has ls k) (same_lits e.0 held)) ∙ h);
          });
      opens = t.opens;
      chosen = t.chosen;
    }

-- ---- by numbers

-- the clauses without those of a number
numbered_filter : (xs : List (ℕ × List Lit)) (n id : ℕ)
    → clause_numbered (filter (λ x. not (x.0 == n)) xs) id ≡ cond (n == id) None (clause_numbered xs id)
numbered_filter [] n id = elim (cases_Bool (n == id)) [
  | inl here ↦ sym (ap (λ b. cond {A = Option Clause} b None None) here)
  | inr other ↦ sym (ap (λ b. cond {A = Option Clause} b None None) other)
]
numbered_filter (x ∷ xs) n id = elim (cases_Bool (x.0 == n)) [
  | inl goes ↦
      let same : x.0 ≡ n = eqb-true x.0 n goes in
      ap (λ b. clause_numbered (cond (not b) (x ∷ filter (λ y. not (y.0 == n)) xs)
      (filter (λ y. not (y.0 == n)) xs)) id) goes ∙ numbered_filter xs n id ∙ gone same
  | inr stays ↦
      ap (λ b. clause_numbered (cond (not b) (x ∷ filter (λ y. not (y.0 == n)) xs)
      (filter (λ y. not (y.0 == n)) xs)) id) stays
      ∙ ap (λ o. cond (x.0 == id) (Some (record { lits = x.1 })) o) (numbered_filter xs n id) ∙ kept stays
]
  where
    rest : Option Clause
    rest = clause_numbered xs id

    gone : x.0 ≡ n
        → cond (n == id) None rest ≡ cond (n == id) None (cond (x.0 == id) (Some (record { lits = x.1 })) rest)
    gone same = elim (cases_Bool (n == id)) [
      | inl here ↦
          ap (λ b. cond b None rest) here
          ∙ sym (ap (λ b. cond b None (cond (x.0 == id) (Some (record { lits = x.1 })) rest)) here)
      | inr other ↦
          ap (λ b. cond b None rest) other
          ∙ sym (ap (λ b. cond b (Some (record { lits = x.1 })) rest) (ap (λ k. k == id) same ∙ other))
          ∙ sym (ap (λ b. cond b None (cond (x.0 == id) (Some (record { lits = x.1 })) rest)) other)
    ]

    kept : (x.0 == n) ≡ false
        → cond (x.0 == id) (Some (record { lits = x.1 })) (cond (n == id) None rest)
        ≡ cond (n == id) None (cond (x.0 == id) (Some (record { lits = x.1 })) rest)
    kept stays = elim (cases_Bool (n == id)) [
      | inl here ↦
          let apart : (x.0 == id) ≡ false = ap (λ k. x.0 == k) (sym (eqb-true n id here)) ∙ stays in
          ap (λ b. cond b (Some (record { lits = x.1 })) (cond (n == id) None rest)) apart
          ∙ ap (λ b. cond b None rest) here
          ∙ sym (ap (λ b. cond b None (cond (x.0 == id) (Some (record { lits = x.1 })) rest)) here)
      | inr other ↦
          ap (λ b. cond (x.0 == id) (Some (record { lits = x.1 })) (cond b None rest)) other
          ∙ sym (ap (λ b. cond b None (cond (x.0 == id) (Some (record { lits = x.1 })) rest)) other)
    ]

-- what is held once a number is deleted
pub held_less : (old new : Store) (n : ℕ) → clauses new ≡ filter (λ x. not (x.0 == n)) (clauses old)
    → (id : ℕ) → held_in new id ≡ cond (n == id) None (held_in old id)
held_less old new n less id =
    ap (λ (xs : List (ℕ × List Lit)). clause_numbered xs id) less ∙ numbered_filter (clauses old) n id

none_left : (old new : Store) (n : ℕ) → ((id : ℕ) → held_in new id ≡ cond (n == id) None (held_in old id)) → (id : ℕ)
    → held_in old id ≡ None → held_in new id ≡ None
none_left old new n less id none = less id ∙ ap (λ o. cond (n == id) None o) none ∙ by (n == id)
  where
    by : (b : _) → cond {A = Option Clause} b None None ≡ None
    by true = refl
    by false = refl

-- what is held under smaller numbers stays
pub keeps_below : (old new : Store) (n first : ℕ) → ((id : ℕ) → held_in new id ≡ cond (n == id) None (held_in old id))
    → first ≤ n → KeepsBelow first old new
keeps_below old new n first less high id c low there =
    let apart : (n == id) ≡ false = ne_eqb n id (λ same. omega arith) in
    less id ∙ ap (λ b. cond b None (held_in old id)) apart ∙ there

-- a search stays ready
pub ready_less : (old new : Store) (now : Assigned) (next from first : ℕ) (c : ClauseRef) → IsReady old now next from
    → IsSound old.vars old.words old.refs → IsSound new.vars new.words new.refs → Deletes old new c.0
    → clauses new ≡ filter (λ x. not (x.0 == number_of old c)) (clauses old) → MayGo old now.reasons first c
    → next ≤ 2 ^ 62 → IsReady new now next from
ready_less old new now next from first c r sound sound_new d less may low = record {
  vars = r.vars ∙ sym d.vars;
  trail = trail_fewer old new c.0 d sound sound_new now.vars now.lits now.levels now.reasons c refl may.no_reason
      r.trail;
  kept = kept_fewer old new c.0 d now.lits now.levels from r.kept;
  within = r.within;
  below = below_fewer old new c.0 d next r.below;
  above = none_left old new (number_of old c) (held_less old new (number_of old c) less) 0 r.above;
  some = r.some;
  number = omega arith;
  few = r.few;
}

-- a search stays ready where its clauses move together
pub ready_compacted : (old new : Store) (was now : Assigned) (next from : ℕ) → IsReady old was next from
    → now.vars ≡ was.vars → new.vars ≡ old.vars → now.lits ≡ was.lits → clauses new ≡ clauses old
    → IsTrail new now.vars now.lits now.levels now.reasons → IsKept new now.lits now.levels from
    → ((n : ℕ) → AreBelow old n → AreBelow new n) → IsReady new now next from
ready_compacted old new was now next from r vars arena_vars lits same trail kept below = record {
  vars = vars ∙ r.vars ∙ sym arena_vars;
  trail = trail;
  kept = kept;
  within = (let n : length now.lits ≡ length was.lits = ap length lits in
      let w : from ≤ length was.lits = r.within in omega arith);
  below = below next r.below;
  above = ap (λ (xs : List (ℕ × List Lit)). clause_numbered xs 0) same ∙ r.above;
  some = r.some;
  number = (let n : length (clauses new) ≡ length (clauses old) = ap length same in
      let w : next ≤ length (clauses old) + 2 ^ 62 = r.number in omega arith);
  few = r.few;
}

-- the same clauses are held then, and so what was logged goes on
pub keeps_compacted : (a b d : Store) (first : ℕ) → clauses d ≡ clauses b → KeepsBelow first a b → KeepsBelow first a d
keeps_compacted a b d first same keeps id c low there =
    ap (λ (xs : List (ℕ × List Lit)). clause_numbered xs id) same ∙ keeps id c low there

pub goes_compacted : (old new : Option (List ℕ)) (a b d : Store) (first added runs more : ℕ) → clauses d ≡ clauses b
    → GoesOnReduced old new a b first added runs more → GoesOnReduced old new a d first added runs more
goes_compacted old new a b d first added runs more same goes = λ before ins tolds g.
    subst (λ (xs : List (ℕ × List Lit)). IsGoing before new ins (clause_numbered xs) (first + added) added more tolds)
    (sym same) (goes before ins tolds g)

-- ---- long clauses

-- three different literals of a clause
pub record HasThree (c : List Lit) : Type 0 where
  pub one : Lit
  pub two : Lit
  pub three : Lit
  pub in_one : has c one ≡ true
  pub in_two : has c two ≡ true
  pub in_three : has c three ≡ true
  pub first : one ≢ two
  pub second : two ≢ three
  pub third : one ≢ three

-- a clause of three literals or more
pub three_of : (a : Store) (r : ℕ) → IsSound a.vars a.words a.refs → In r a.refs → 3 ≤ word a.words r
    → HasThree (lits_of a r)
three_of a r sound i long = record {
  one = literal a r 0;
  two = literal a r 1;
  three = literal a r 2;
  in_one = inside 0 (omega arith);
  in_two = inside 1 (omega arith);
  in_three = inside 2 (omega arith);
  first = λ e. (let same : 0 ≡ 1 = apart 0 1 (omega arith) (omega arith) e in absurd (omega arith));
  second = λ e. (let same : 1 ≡ 2 = apart 1 2 (omega arith) (omega arith) e in absurd (omega arith));
  third = λ e. (let same : 0 ≡ 2 = apart 0 2 (omega arith) (omega arith) e in absurd (omega arith));
}
  where
    inside : (k : ℕ) → k < word a.words r → has (lits_of a r) (literal a r k) ≡ true
    inside k low =
        has_at (lits_of a r) k (literal a r k)
        (lits_listed a.vars a.words a.refs r k (word a.words (r + 4 + k)) sound i low refl)

    apart : (j k : ℕ) → j < word a.words r → k < word a.words r → literal a r j ≡ literal a r k → j ≡ k
    apart j k first second e =
        sound.laid.differ r j k i first second
        (same_code (word a.words (r + 4 + j)) (word a.words (r + 4 + k)) e)

-- the number of a clause that is held has a text
pub text_of_held : (a : Store) (now : Assigned) (next from id : ℕ) (c : Clause) → IsReady a now next from
    → held_in a id ≡ Some c → HasText (Delete id)
text_of_held a now next from zero c r there = let clash : None ≡ Some c = sym r.above ∙ there in absurd (cc)
text_of_held a now next from (suc n) c r there =
    let low : suc n < next = held_below a next (suc n) c r.below there in
    let few : next ≤ 2 ^ 63 = r.few in (omega arith, omega arith)
