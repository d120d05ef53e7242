-- Trails with values: one literal more, one literal less.
use Rattle.std.proofs.Common.{◌≡◌, ◌≢◌, ℕ, ◌+◌, ◌-◌, ◌<◌, ◌≤◌, ◌==◌, true, false, not, List, [], ◌∷◌, ◌++◌, length}
use Rattle.std.proofs.Common.{length-append, length-take, take, set, slice_get, Option, Some, None, inl, inr}
use Rattle.std.proofs.Common.{refl, sym, ap, subst, ◌∙◌, arith}
use Rattle.std.specs.Prelude.{nat_lt}
use Rattle.std.proofs.lemmas.Bool.{cases_Bool, eqb-true, eq-eqb, false≢true, and_parts, and_from, lt-ltb, ltb-true}
use Rattle.std.proofs.lemmas.Option.{slice_get_within}
use Rattle.std.proofs.lemmas.List.{length-set, take-append-le}
use Rattle.std.proofs.Math.Seq.{take-append_seam}
use Rattle.mw_text.proofs.Lists.{each_place-push, item_before}
use Rattle.resolution_check.specs.declared.log.Lit.{Lit}
use Rattle.resolution_check.specs.Clauses.{is_below}
use Rattle.resolution_check.specs.Trails.{value_of}
use Rattle.resolution_check.proofs.Values.{value_of-last, value_of-other}
use Rattle.clause_arena.specs.declared.names.ClauseRef.{ClauseRef}
use Rattle.conflict_analysis.proofs.Fits.{trail_fits}
use Rattle.deciders.specs.declared.decider.Value.{Value}
use Rattle.deciders.specs.declared.decider.Value.TheVariants.{Free}
use Rattle.watched_search.specs.Trails.{IsSound, shown}
use Rattle.watched_search.proofs.Places.{slice_get-set_same, slice_get-set_other, slice_get-seam, all_push}

unlike : (m n : ℕ) → (m == n) ≡ false → n ≢ m
unlike m n h e = false≢true (sym h ∙ eq-eqb m n (sym e))

-- a list without its last item
pub front_of : {X : Type 0} (xs : List X) (x : X) → take (length (xs ++ x ∷ []) - 1) (xs ++ x ∷ []) ≡ xs
front_of xs x =
    let l : length (xs ++ x ∷ []) ≡ length xs + 1 = length-append xs (x ∷ []) in
    let n : length (xs ++ x ∷ []) - 1 ≡ length xs = omega arith in
    ap (λ k. take k (xs ++ x ∷ [])) n ∙ take-append_seam xs (x ∷ [])

-- no literal was given a value before
pub fresh_push : (ls : List Lit) (l : Lit) → value_of ls l.var ≡ None
    → ((at : ℕ) (k : Lit) → slice_get ls at ≡ Some k → value_of (take at ls) k.var ≡ None)
    → (at : ℕ) (k : Lit) → slice_get (ls ++ l ∷ []) at ≡ Some k → value_of (take at (ls ++ l ∷ [])) k.var ≡ None
fresh_push ls l free fresh =
    each_place-push (λ i k. value_of (take i (ls ++ l ∷ [])) k.var ≡ None) ls l
    (λ i k h. let w : i < length ls = slice_get_within ls i k h in
    ap (λ ms. value_of ms k.var) (take-append-le i ls (l ∷ []) (omega arith)) ∙ fresh i k h)
    (ap (λ ms. value_of ms l.var) (take-append_seam ls (l ∷ [])) ∙ free)

-- a free variable leaves room
pub fits_more : (vars : ℕ) (ls : List Lit) (l : Lit) → is_below vars ls ≡ true
    → ((at : ℕ) (k : Lit) → slice_get ls at ≡ Some k → value_of (take at ls) k.var ≡ None)
    → l.var < vars → value_of ls l.var ≡ None → length ls < vars
fits_more vars ls l below fresh within free =
    let more : length (ls ++ l ∷ []) ≡ length ls + 1 = length-append ls (l ∷ []) in
    let fits : length (ls ++ l ∷ []) ≤ vars =
    trail_fits vars (ls ++ l ∷ []) (all_push (λ k. nat_lt k.var vars) ls l below
    (lt-ltb l.var vars within)) (fresh_push ls l free fresh) in
    omega arith

below_parts : (vars : ℕ) (ls : List Lit) (l : Lit) → is_below vars (ls ++ l ∷ []) ≡ true
    → (is_below vars ls ≡ true) × (l.var < vars)
below_parts vars [] l h = (refl, ltb-true l.var vars (and_parts _ _ h).0)
below_parts vars (k ∷ ls) l h =
    let both = and_parts (nat_lt k.var vars) (is_below vars (ls ++ l ∷ [])) h in
    let rest = below_parts vars ls l both.1 in (and_from _ _ both.0 rest.0, rest.1)

module _ (ls : List Lit) (levels : List ℕ) (reasons : List (Option ClauseRef)) (values : List Value) (l : Lit)
    (level : ℕ) (reason : Option ClauseRef) where
  pub sound_push : (v : Value) → v ≡ shown (value_of (l ∷ []) l.var) → l.var < length values
      → value_of ls l.var ≡ None → IsSound ls levels reasons values
      → IsSound (ls ++ l ∷ []) (levels ++ level ∷ []) (reasons ++ reason ∷ []) (set values l.var v)
  sound_push v is within free sound =
      let long : length (set values l.var v) ≡ length values = length-set values l.var v in
      let more : length (ls ++ l ∷ []) ≡ length ls + 1 = length-append ls (l ∷ []) in
      let more_levels : length (levels ++ level ∷ []) ≡ length levels + 1 = length-append levels (level ∷ []) in
      let more_reasons : length (reasons ++ reason ∷ []) ≡ length reasons + 1 =
      length-append reasons (reason ∷ []) in
      let levels_before : length levels ≡ length ls = sound.level_count in
      let reasons_before : length reasons ≡ length ls = sound.reason_count in
      let own : value_of (l ∷ []) l.var ≡ Some (not l.negated) = value_of-last [] l refl in
      record {
        same = λ u h. elim (cases_Bool (l.var == u)) [
          | inl here ↦
              let e : l.var ≡ u = eqb-true l.var u here in
              ap (slice_get (set values l.var v)) (sym e) ∙ slice_get-set_same values l.var v within
              ∙ ap Some (is ∙ ap shown (own ∙ sym (value_of-last ls l free) ∙ ap (value_of (ls ++ l ∷ [])) e))
          | inr other ↦ slice_get-set_other values l.var u v (unlike l.var u other)
              ∙ sound.same u (omega arith) ∙ ap (λ o. Some (shown o)) (sym (value_of-other ls l u other))
        ];
        below = subst (λ (n : ℕ). is_below n (ls ++ l ∷ []) ≡ true) (sym long)
            (all_push (λ k. nat_lt k.var (length values)) ls l sound.below
            (lt-ltb l.var (length values) within));
        fresh = fresh_push ls l free sound.fresh;
        level_count = omega arith;
        reason_count = omega arith;
      }

module _ (ls : List Lit) (levels : List ℕ) (reasons : List (Option ClauseRef)) (values : List Value) (l : Lit) where
  pub sound_pop : IsSound (ls ++ l ∷ []) levels reasons values
      → IsSound ls (take (length ls) levels) (take (length ls) reasons) (set values l.var Free)
  sound_pop sound =
      let long : length (set values l.var Free) ≡ length values = length-set values l.var Free in
      let more : length (ls ++ l ∷ []) ≡ length ls + 1 = length-append ls (l ∷ []) in
      let levels_before : length levels ≡ length (ls ++ l ∷ []) = sound.level_count in
      let reasons_before : length reasons ≡ length (ls ++ l ∷ []) = sound.reason_count in
      let last : slice_get (ls ++ l ∷ []) (length ls) ≡ Some l = slice_get-seam ls l [] in
      let free : value_of ls l.var ≡ None =
      ap (λ ms. value_of ms l.var) (sym (take-append_seam ls (l ∷ []))) ∙ sound.fresh (length ls) l last in
      let parts = below_parts (length values) ls l sound.below in
      record {
        same = λ u h. elim (cases_Bool (l.var == u)) [
          | inl here ↦
              let e : l.var ≡ u = eqb-true l.var u here in
              ap (slice_get (set values l.var Free)) (sym e) ∙ slice_get-set_same values l.var Free parts.1
              ∙ ap (λ o. Some (shown o)) (sym free ∙ ap (value_of ls) e)
          | inr other ↦ slice_get-set_other values l.var u Free (unlike l.var u other)
              ∙ sound.same u (omega arith) ∙ ap (λ o. Some (shown o)) (value_of-other ls l u other)
        ];
        below = subst (λ (n : ℕ). is_below n ls ≡ true) (sym long) parts.0;
        fresh = λ i k h. (let w : i < length ls = slice_get_within ls i k h in
            ap (λ ms. value_of ms k.var) (sym (take-append-le i ls (l ∷ []) (omega arith)))
            ∙ sound.fresh i k (item_before ls (l ∷ []) i k h));
        level_count = omega (arith, length-take (length ls) levels);
        reason_count = omega (arith, length-take (length ls) reasons);
      }
