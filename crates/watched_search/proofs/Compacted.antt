-- What a compaction leaves of the trail and the watches.
use Rattle.std.proofs.Common.{◌≡◌, ℕ, suc, ◌+◌, ◌-◌, ◌<◌, ◌≤◌, List, [], ◌∷◌, length, map, Option, Some, None}
use Rattle.std.proofs.Common.{slice_get}
use Rattle.std.proofs.Common.{refl, sym, ap, subst, ◌∙◌, arith}
use Rattle.std.specs.Prelude.{IfSome}
use Rattle.std.specs.List.{All}
use Rattle.std.specs.Option.{option_map}
use Rattle.std.proofs.lemmas.List.{length-map}
use Rattle.std.proofs.lemmas.List.Elements.{All-nil, All-cons}
use Rattle.std.proofs.lemmas.Option.{slice_get-map, slice_get_within}
use Rattle.mw_text.proofs.Lists.{item_there}
use Rattle.resolution_check.specs.declared.log.Lit.{Lit}
use Rattle.resolution_check.specs.Clauses.{has}
use Rattle.resolution_check.specs.Trails.{holds, fails}
use Rattle.clause_arena.specs.declared.names.ClauseRef.{ClauseRef}
use Rattle.clause_arena.specs.Links.{word}
use Rattle.mw_text.specs.Members.{In}
use Rattle.clause_arena.specs.Store.{Store, IsSound}
use Rattle.clause_arena.specs.Held.{IsHeld, lit_of, lits_of}
use Rattle.clause_arena.specs.Compacted.{Compacts, IsSameAt, reason_renamed, renamed}
use Rattle.clause_arena.proofs.Places.{in_at, at_of}
use Rattle.clause_arena.proofs.Renaming.{renamed_at}
use Rattle.clause_arena.proofs.Views.{clause_like}
use Rattle.conflict_analysis.specs.Steps.{IsTrail}
use Rattle.conflict_analysis.specs.Levels.{steps_to}
use Rattle.watched_search.specs.Starts.{AreBelow}
use Rattle.watched_search.specs.Watches.{AreWatched, IsKept, literal}

-- ---- the clauses that are reasons

held_front : (a : Store) (reasons : List (Option ClauseRef))
    → ((at : ℕ) (c : ClauseRef) → slice_get reasons at ≡ Some (Some c) → IsHeld a c)
    → All (λ r. IfSome r (IsHeld a)) reasons
held_front a [] each = All-nil (λ (q : Option ClauseRef). IfSome q (IsHeld a))
held_front a (r ∷ rs) each =
    All-cons (λ (q : Option ClauseRef). IfSome q (IsHeld a)) r rs (by r refl)
    (held_front a rs (λ at c h. each (suc at) c h))
  where
    by : (q : Option ClauseRef) → r ≡ q → IfSome q (IsHeld a)
    by None e = tt
    by (Some c) e = each 0 c (ap (λ (o : Option ClauseRef). Some o) e)

-- each reason of a trail is held
pub reasons_held : (a : Store) (vars : ℕ) (lits : List Lit) (levels : List ℕ) (reasons : List (Option ClauseRef))
    → IsTrail a vars lits levels reasons → All (λ r. IfSome r (IsHeld a)) reasons
reasons_held a vars lits levels reasons t = held_front a reasons (λ at c h.
    let low : at < length reasons = slice_get_within reasons at (Some c) h in
    let same : length reasons ≡ length lits = t.reason_count in
    let there = item_there lits at (omega arith) in
    (t.forced at there.0 c there.1 h).held)

-- a reason that was renamed
pub record Renamed (refs new : List ℕ) (reason : Option ClauseRef) (c : ClauseRef) : Type 0 where
  pub old : ClauseRef
  pub was : reason ≡ Some old
  pub is : renamed refs new old.0 ≡ c.0

renamed_some : (refs new : List ℕ) (reason : Option ClauseRef) (c : ClauseRef)
    → reason_renamed refs new reason ≡ Some c → Renamed refs new reason c
renamed_some refs new None c h = absurd (cc)
renamed_some refs new (Some b) c h = record {
  old = b;
  was = refl;
  is = (let e : record { 0 = renamed refs new b.0 } ≡ c = cc in ap (λ (r : ClauseRef). r.0) e);
}

renamed_there : (refs new : List ℕ) (reasons : List (Option ClauseRef)) (at : ℕ) (c : ClauseRef)
    → slice_get (map (reason_renamed refs new) reasons) at ≡ Some (Some c)
    → (b : ClauseRef) × (slice_get reasons at ≡ Some (Some b)) × (renamed refs new b.0 ≡ c.0)
renamed_there refs new reasons at c h =
    by (slice_get reasons at) refl (sym (slice_get-map (reason_renamed refs new) reasons at) ∙ h)
  where
    by : (o : Option (Option ClauseRef)) → slice_get reasons at ≡ o
        → option_map (reason_renamed refs new) o ≡ Some (Some c)
        → (b : ClauseRef) × (slice_get reasons at ≡ Some (Some b)) × (renamed refs new b.0 ≡ c.0)
    by None e g = absurd (cc)
    by (Some r) e g =
        let n : reason_renamed refs new r ≡ Some c = cc in
        let k = renamed_some refs new r c n in
        (k.old, e ∙ ap (λ (o : Option ClauseRef). Some o) k.was, k.is)

none_there : (refs new : List ℕ) (reasons : List (Option ClauseRef)) (at : ℕ)
    → slice_get (map (reason_renamed refs new) reasons) at ≡ Some None → slice_get reasons at ≡ Some None
none_there refs new reasons at h =
    by (slice_get reasons at) refl (sym (slice_get-map (reason_renamed refs new) reasons at) ∙ h)
  where
    by : (o : Option (Option ClauseRef)) → slice_get reasons at ≡ o
        → option_map (reason_renamed refs new) o ≡ Some None → slice_get reasons at ≡ Some None
    by None e g = absurd (cc)
    by (Some None) e g = e
    by (Some (Some b)) e g = absurd (cc)

module _ (old new : Store) (c : Compacts old new) (sound : IsSound old.vars old.words old.refs)
    (sound_new : IsSound new.vars new.words new.refs) where
  -- each clause that is held was held, under the reference that gave its own
  came : (s : ℕ) → In s new.refs → (r : ℕ) × In r old.refs × IsSameAt (word old.words) (word new.words) r s
  came s i =
      let k = at_of new.refs s i in
      let count : length new.refs ≡ length old.refs = c.count in
      let within : k.at < length new.refs = k.within in
      let low : k.at < length old.refs = omega arith in
      let held = in_at old.refs k.at low in
      let is : renamed old.refs new.refs (word old.refs k.at) ≡ s =
      renamed_at old.refs new.refs k.at sound.laid.rising c.count low ∙ k.value in (
        word old.refs k.at,
        held,
        subst (λ (u : ℕ). IsSameAt (word old.words) (word new.words) (word old.refs k.at) u) is
            (c.same (word old.refs k.at) held),
      )

  watched_same : (looked_at steps : List Lit) → AreWatched old looked_at steps → AreWatched new looked_at steps
  watched_same looked_at steps w s side i two low falls =
      let f = came s i in
      let k = f.2 in
      let size : word new.words s ≡ word old.words f.0 = k.size in
      let own : literal new s side ≡ literal old f.0 side = ap lit_of (k.codes side (omega arith)) in
      let other : literal new s (1 - side) ≡ literal old f.0 (1 - side) =
      ap lit_of (k.codes (1 - side) (omega arith)) in
      ap (holds steps) other ∙ w f.0 side f.1 (omega arith) low (sym (ap (fails looked_at) own) ∙ falls)

  -- the watches are kept
  pub kept_compacted : (steps : List Lit) (levels : List ℕ) (head : ℕ) → IsKept old steps levels head
      → IsKept new steps levels head
  kept_compacted steps levels head k = record {
    filled = λ s i.
        (let f = came s i in
        let size : word new.words s ≡ word old.words f.0 = f.2.size in
        let some : 1 ≤ word old.words f.0 = k.filled f.0 f.1 in omega arith);
    ones = λ s i one.
        (let f = came s i in
        let size : word new.words s ≡ word old.words f.0 = f.2.size in
        let was : word old.words f.0 ≡ 1 = sym size ∙ one in
        let own : literal new s 0 ≡ literal old f.0 0 = ap lit_of (f.2.codes 0 (omega arith)) in
        ap (holds (steps_to steps levels 0)) own ∙ k.ones f.0 f.1 was);
    before = λ at low opens. watched_same _ _ (k.before at low opens);
    now = watched_same _ _ k.now;
    low = k.low;
  }

  -- numbers stay
  pub below_compacted : (next : ℕ) → AreBelow old next → AreBelow new next
  below_compacted next below d i =
      let f = came d.0 i in
      let same : word new.words (d.0 + 1) ≡ word old.words (f.0 + 1) = f.2.number in
      let low : word old.words (f.0 + 1) < next = below (record { 0 = f.0 }) f.1 in omega arith

  same_lits : (r : ℕ) → In r old.refs → lits_of new (renamed old.refs new.refs r) ≡ lits_of old r
  same_lits r i =
      let k = c.same r i in
      let s = renamed old.refs new.refs r in
      ap (λ (x : ℕ × List Lit). x.1)
      (clause_like old.words new.words r s (sound.laid.inside r i) (sound_new.laid.inside s (c.held r i)) k.size
      k.number k.codes)

  -- the reasons follow their clauses
  pub trail_compacted : (vars : ℕ) (lits : List Lit) (levels : List ℕ) (reasons : List (Option ClauseRef))
      → IsTrail old vars lits levels reasons
      → IsTrail new vars lits levels (map (reason_renamed old.refs new.refs) reasons)
  trail_compacted vars lits levels reasons t = record {
    level_count = t.level_count;
    reason_count = length-map reasons (reason_renamed old.refs new.refs) ∙ t.reason_count;
    below = t.below;
    fresh = t.fresh;
    rising = t.rising;
    forced = λ at l e there because.
        (let b = renamed_there old.refs new.refs reasons at e because in
        let f = t.forced at l b.0 there b.1 in
        let is : renamed old.refs new.refs b.0.0 ≡ e.0 = b.2 in
        let lits_same : lits_of new e.0 ≡ lits_of old b.0.0 =
        ap (lits_of new) (sym is) ∙ same_lits b.0.0 f.held in
        record {
          held = subst (λ (u : ℕ). In u new.refs) is (c.held b.0.0 f.held);
          inside = ap (λ ls. has ls l) lits_same ∙ f.inside;
          others = λ k h. f.others k (sym (ap (λ ls. has ls k) lits_same) ∙ h);
        });
    opens = λ at because. t.opens at (none_there old.refs new.refs reasons at because);
    chosen = λ at low o.
        slice_get-map (reason_renamed old.refs new.refs) reasons at
        ∙ ap (option_map (reason_renamed old.refs new.refs)) (t.chosen at low o);
  }
