-- Clauses as sets: what a chain resolves to depends on the literals of the clauses, not on their order.
use Rattle.std.proofs.Common.{◌≡◌, ℕ, ◌+◌, ◌==◌, true, false, cond, List, [], ◌∷◌, ◌++◌, map, Option, Some}
use Rattle.std.proofs.Common.{None}
use Rattle.std.proofs.Common.{Result, Ok, Err, inl, inr, refl, sym, ap, subst, ◌∙◌}
use Rattle.std.specs.Option.{option_map_or, option_or, ok_or}
use Rattle.std.proofs.lemmas.Bool.{cases_Bool, true≢false}
use Rattle.resolution_check.specs.declared.log.Lit.{Lit}
use Rattle.resolution_check.specs.declared.log.Clause.{Clause}
use Rattle.resolution_check.specs.declared.log.Bad.{Bad}
use Rattle.resolution_check.specs.declared.log.Bad.TheVariants.{NoPivot, UnknownId}
use Rattle.resolution_check.specs.Clauses.{has, is_inside, resolvent, IsSameSet}
use Rattle.resolution_check.specs.declared.log.Entry.{Entry}
use Rattle.resolution_check.specs.Earned.{IsEarnedAddition}
use Rattle.resolution_check.specs.Entries.{clause_held, has_ended, is_given}
use Rattle.resolution_check.specs.Entries.{and_then, resolved, resolved_next, resolved_from}
use Rattle.resolution_check.proofs.Literals.{all_at, all_from}
use Rattle.resolution_check.proofs.Resolvents.{inside-same, same_resolvent}
use Rattle.clause_arena.specs.Links.{word}
use Rattle.mw_text.specs.Members.{In}
use Rattle.clause_arena.specs.Store.{Store}
use Rattle.clause_arena.specs.Held.{clause_numbered, held_in, lits_of}
use Rattle.watched_search.specs.Watches.{IsSameView}
use Rattle.watched_search.specs.Sets.{GivesSets, AreSameSets, IsAddition}

module _ (old new : ℕ → Option Clause) (gives : GivesSets old new) where
  next_set : (r s : List Lit) (at id : ℕ) (t : List Lit) → IsSameSet r s → resolved_next old r at id ≡ Ok t
      → (u : List Lit) × (resolved_next new s at id ≡ Ok u) × IsSameSet t u
  next_set r s at id t same e = by_clause (old id) refl e
    where
      by_resolvent : (c : Clause) → old id ≡ Some c → (o : Option (List Lit)) → resolvent r c.lits ≡ o
          → ok_or o (NoPivot at) ≡ Ok t → (u : List Lit) × (resolved_next new s at id ≡ Ok u) × IsSameSet t u
      by_resolvent c there None f k = absurd (cc)
      by_resolvent c there (Some v) f k =
          let d = gives id c there in
          let found = same_resolvent r c.lits s d.0.lits v same d.2 f in
          let e : v ≡ t = cc in (
            found.0,
            ap (λ o. option_map_or (λ (x : Clause). ok_or (resolvent s x.lits) (NoPivot at)) o (Err (UnknownId id))) d.1
                ∙ ap (λ o. ok_or o (NoPivot at)) found.1,
            subst (λ (x : List Lit). IsSameSet x found.0) e found.2,
          )

      by_clause : (o : Option Clause) → old id ≡ o
          → option_map_or (λ c. ok_or (resolvent r c.lits) (NoPivot at)) o (Err (UnknownId id)) ≡ Ok t
          → (u : List Lit) × (resolved_next new s at id ≡ Ok u) × IsSameSet t u
      by_clause None there k = absurd (cc)
      by_clause (Some c) there k = by_resolvent c there (resolvent r c.lits) refl k

  rest_set : (ids : List ℕ) (at : ℕ) (s t : List Lit) (id : ℕ) (answer : Result (List Lit) Bad)
      → ((v : List Lit) → answer ≡ Ok v → (u : List Lit) × (resolved_next new s at id ≡ Ok u) × IsSameSet v u)
      → ((v u : List Lit) → IsSameSet v u → resolved_from old v (at + 1) ids ≡ Ok t
      → (w : List Lit) × (resolved_from new u (at + 1) ids ≡ Ok w) × IsSameSet t w)
      → and_then answer (λ v. resolved_from old v (at + 1) ids) ≡ Ok t
      → (w : List Lit) × (resolved_from new s at (id ∷ ids) ≡ Ok w) × IsSameSet t w
  rest_set ids at s t id (Ok v) here later e =
      let x = here v refl in
      let y = later v x.0 x.2 e in
      (y.0, ap (λ answer. and_then answer (λ u. resolved_from new u (at + 1) ids)) x.1 ∙ y.1, y.2)
  rest_set ids at s t id (Err bad) here later e = absurd (cc)

  from_set : (ids : List ℕ) (r s : List Lit) (at : ℕ) (t : List Lit) → IsSameSet r s
      → resolved_from old r at ids ≡ Ok t → (w : List Lit) × (resolved_from new s at ids ≡ Ok w) × IsSameSet t w
  from_set [] r s at t same e =
      let f : r ≡ t = cc in (s, refl, subst (λ (x : List Lit). IsSameSet x s) f same)
  from_set (id ∷ ids) r s at t same e =
      rest_set ids at s t id (resolved_next old r at id) (λ v f. next_set r s at id v same f)
      (λ v u k f. from_set ids v u (at + 1) t k f) e

  -- a chain that resolves among the earlier clauses resolves to the same set among the later ones
  pub resolved_set : (chain : List ℕ) (r : List Lit) → resolved old chain ≡ Ok r
      → (w : List Lit) × (resolved new chain ≡ Ok w) × IsSameSet r w
  resolved_set [] r e = absurd (cc)
  resolved_set (id ∷ ids) r e = by_clause (old id) refl e
    where
      by_clause : (o : Option Clause) → old id ≡ o
          → option_map_or (λ c. resolved_from old c.lits 1 ids) o (Err (UnknownId id)) ≡ Ok r
          → (w : List Lit) × (resolved new (id ∷ ids) ≡ Ok w) × IsSameSet r w
      by_clause None there k = absurd (cc)
      by_clause (Some c) there k =
          let d = gives id c there in
          let found = from_set ids c.lits d.0.lits 1 r d.2 k in (
            found.0,
            ap (λ o. option_map_or (λ (x : Clause). resolved_from new x.lits 1 ids) o (Err (UnknownId id))) d.1
                ∙ found.1,
            found.2,
          )

-- ---- additions

inside_set : (c d lits : List Lit) → IsSameSet c d → is_inside c lits ≡ true → is_inside d lits ≡ true
inside_set c d lits same h = all_from (has lits) d (λ l m. all_at (has lits) c h l (same l ∙ m))

outside_set : (c d lits : List Lit) → IsSameSet c d → is_inside c lits ≡ false → is_inside d lits ≡ false
outside_set c d lits same h = elim (cases_Bool (is_inside d lits)) [
  | inl within ↦ absurd (true≢false (sym (inside_set d c lits (λ l. sym (same l)) within) ∙ h))
  | inr outside ↦ outside
]

-- an addition to some clauses is one to the same clauses in another order of literals
pub addition_set : (old new : ℕ → Option Clause) (lits : List Lit) (chain : List ℕ) → AreSameSets old new
    → IsAddition old lits chain → IsAddition new lits chain
addition_set old new lits chain s a =
    let found = resolved_set old new s.there chain a.clause a.resolves in
    record {
      clause = found.0;
      resolves = found.1;
      same = λ l. sym (found.2 l) ∙ a.same l;
      once = a.once;
      smallest = λ id c h.
          (let d = s.back id c h in
          outside_set d.0.lits c.lits lits (λ l. sym (d.2 l)) (a.smallest id d.0 d.1));
    }

pub sets_same : (held : ℕ → Option Clause) → AreSameSets held held
sets_same held = record { there = λ id c h. (c, h, λ l. refl); back = λ id c h. (c, h, λ l. refl) }

pub gives_then : (old middle new : ℕ → Option Clause) → GivesSets old middle → GivesSets middle new → GivesSets old new
gives_then old middle new f g id c h =
    let d = f id c h in
    let e = g id d.0 d.1 in
    (e.0, e.1, λ l. d.2 l ∙ e.2 l)

pub sets_then : (old middle new : ℕ → Option Clause) → AreSameSets old middle → AreSameSets middle new
    → AreSameSets old new
sets_then old middle new s t = record {
  there = gives_then old middle new s.there t.there;
  back = gives_then new middle old t.back s.back;
}

pub sets_back : (old new : ℕ → Option Clause) → AreSameSets old new → AreSameSets new old
sets_back old new s = record { there = s.back; back = s.there }

-- ---- the clauses of an arena

numbered_sets : (f g : ℕ → (ℕ × List Lit)) (refs : List ℕ)
    → ((r : ℕ) → In r refs → ((g r).0 ≡ (f r).0) × IsSameSet (f r).1 (g r).1)
    → GivesSets (clause_numbered (map f refs)) (clause_numbered (map g refs))
numbered_sets f g [] same id c h = absurd (cc)
numbered_sets f g (r ∷ refs) same id c h = elim (cases_Bool ((f r).0 == id)) [
  | inl here ↦
      let both = same r (inl refl) in
      let e : Some (record { lits = (f r).1 }) ≡ Some c =
      sym (ap (λ b. cond b (Some (record { lits = (f r).1 })) (clause_numbered (map f refs) id)) here) ∙ h in
      let own : record { lits = (f r).1 } ≡ c = cc in (
        record { lits = (g r).1 },
        ap (λ b. cond b (Some (record { lits = (g r).1 })) (clause_numbered (map g refs) id))
            (ap (λ n. n == id) both.0 ∙ here),
        subst (λ (k : Clause). IsSameSet k.lits (g r).1) own both.1,
      )
  | inr other ↦
      let both = same r (inl refl) in
      let found = numbered_sets f g refs (λ s i. same s (inr i)) id c
      (sym (ap (λ b. cond b (Some (record { lits = (f r).1 })) (clause_numbered (map f refs) id)) other) ∙ h) in (
        found.0,
        ap (λ b. cond b (Some (record { lits = (g r).1 })) (clause_numbered (map g refs) id))
            (ap (λ n. n == id) both.0 ∙ other) ∙ found.1,
        found.2,
      )
]

-- while watches move, the same clauses are held
pub view_sets : (old new : Store) → IsSameView old new → AreSameSets (held_in old) (held_in new)
view_sets old new v =
    let f : ℕ → (ℕ × List Lit) = λ r. (word old.words (r + 1), lits_of old r) in
    let g : ℕ → (ℕ × List Lit) = λ r. (word new.words (r + 1), lits_of new r) in
    record {
      there = subst (λ (rs : List ℕ). GivesSets (clause_numbered (map
          (λ (r : ℕ). (word old.words (r + 1), lits_of old r)) old.refs)) (clause_numbered (map
          (λ (r : ℕ). (word new.words (r + 1), lits_of new r)) rs))) (sym v.refs)
          (numbered_sets f g old.refs (λ r i. (v.numbers r i, λ l. sym (v.literals r l i))));
      back = subst (λ (rs : List ℕ). GivesSets (clause_numbered (map
          (λ (r : ℕ). (word new.words (r + 1), lits_of new r)) rs)) (clause_numbered (map
          (λ (r : ℕ). (word old.words (r + 1), lits_of old r)) old.refs))) (sym v.refs)
          (numbered_sets g f old.refs (λ r i. (sym (v.numbers r i), λ l. v.literals r l i)));
    }

-- ---- one clause more

pub numbered_last : (xs : List (ℕ × List Lit)) (id : ℕ) (lits : List Lit) (k : ℕ)
    → clause_numbered (xs ++ (id, lits) ∷ []) k
    ≡ option_or (clause_numbered xs k) (cond (id == k) (Some (record { lits = lits })) None)
numbered_last [] id lits k = refl
numbered_last (x ∷ xs) id lits k = elim (cases_Bool (x.0 == k)) [
  | inl here ↦ rw here refl
  | inr other ↦ rw other (numbered_last xs id lits k)
]

module _ (f g f_more g_more : ℕ → Option Clause) (id : ℕ) (lits : List Lit)
    (f_is : (k : ℕ) → f_more k ≡ option_or (f k) (cond (id == k) (Some (record { lits = lits })) None))
    (g_is : (k : ℕ) → g_more k ≡ option_or (g k) (cond (id == k) (Some (record { lits = lits })) None)) where
  gives_more : AreSameSets f g → GivesSets f_more g_more
  gives_more s k c h = by (f k) (g k) refl refl (sym (f_is k) ∙ h)
    where
      own : Option Clause
      own = cond (id == k) (Some (record { lits = lits })) None

      by : (o p : Option Clause) → f k ≡ o → g k ≡ p → option_or o own ≡ Some c
          → (d : Clause) × (g_more k ≡ Some d) × IsSameSet c.lits d.lits
      by (Some d) p e m q =
          let n : d ≡ c = cc in
          let t = s.there k d e in (
            t.0,
            g_is k ∙ ap (λ o. option_or o own) t.1,
            subst (λ (x : Clause). IsSameSet x.lits t.0.lits) n t.2,
          )
      by None None e m q = (c, g_is k ∙ ap (λ o. option_or o own) m ∙ q, λ l. refl)
      by None (Some d) e m q = let t = s.back k d m in let z = t.1 in absurd (cc)

-- the same clauses with the same one more behind them
pub sets_more : (f g f_more g_more : ℕ → Option Clause) (id : ℕ) (lits : List Lit)
    → ((k : ℕ) → f_more k ≡ option_or (f k) (cond (id == k) (Some (record { lits = lits })) None))
    → ((k : ℕ) → g_more k ≡ option_or (g k) (cond (id == k) (Some (record { lits = lits })) None))
    → AreSameSets f g → AreSameSets f_more g_more
sets_more f g f_more g_more id lits f_is g_is s = record {
  there = gives_more f g f_more g_more id lits f_is g_is s;
  back = gives_more g f g_more f_more id lits g_is f_is (sets_back f g s);
}

-- so with lists of clauses
pub sets_push : (xs ys : List (ℕ × List Lit)) (id : ℕ) (lits : List Lit)
    → AreSameSets (clause_numbered xs) (clause_numbered ys)
    → AreSameSets (clause_numbered (xs ++ (id, lits) ∷ [])) (clause_numbered (ys ++ (id, lits) ∷ []))
sets_push xs ys id lits s =
    sets_more (clause_numbered xs) (clause_numbered ys) (clause_numbered (xs ++ (id, lits) ∷ []))
    (clause_numbered (ys ++ (id, lits) ∷ [])) id lits (numbered_last xs id lits) (numbered_last ys id lits) s

-- ---- the log

-- an addition to the clauses that a list of entries holds is an earned one, under a number not given
pub earned_addition : (es : List Entry) (held : ℕ → Option Clause) (id : ℕ) (clause : Clause) (chain : List ℕ)
    → has_ended es ≡ false → is_given es id ≡ false → AreSameSets held (clause_held es)
    → IsAddition held clause.lits chain → IsEarnedAddition es id clause chain
earned_addition es held id clause chain going new same one =
    let a = addition_set held (clause_held es) clause.lits chain same one in
    record {
      good = (going, (new, a.clause, a.resolves, inside-same a.clause clause.lits a.same));
      exact = (
        a.clause,
        a.resolves,
        inside-same a.clause clause.lits a.same,
        inside-same clause.lits a.clause (λ l. sym (a.same l)),
      );
      once = a.once;
      smallest = a.smallest;
    }
