-- Steps that are followed back from a false clause.
use Rattle.resolution_check.specs.Trails.{is_value, value_of, fails, AllFail, OthersFail}
use Rattle.std.proofs.Common.{◌≡◌, ℕ, ◌+◌, ◌==◌, Bool, true, false, not, cond, ◌&&◌, ◌||◌, List}
use Rattle.std.proofs.Common.{[], ◌∷◌, ◌++◌, length, take, drop, slice_get, Option, Some, None, is_some, Ok, Err, inl}
use Rattle.std.proofs.Common.{inr, refl, sym, ap, ◌∙◌, take-append-drop}
use Rattle.std.specs.Option.{option_map_or, ok_or}
use Rattle.std.proofs.lemmas.Bool.{not-true, not_from_false, cases_Bool, eqb-true, false≢true}
use Rattle.std.proofs.lemmas.Bool.{or_cases, or_left, or_right, and_parts, and_from}
use Rattle.resolution_check.specs.declared.log.Lit.{Lit}
use Rattle.resolution_check.specs.declared.log.Clause.{Clause}
use Rattle.resolution_check.specs.declared.log.Bad.TheVariants.{NoPivot, UnknownId}
use Rattle.resolution_check.specs.Clauses.{opposite, is_same, has, without, resolvent, IsPivot}
use Rattle.resolution_check.specs.Entries.{resolved, resolved_from}
use Rattle.std.proofs.Math.Seq.{take-length}
use Rattle.std.proofs.Math.Bool.{or-false}
use Rattle.mw_text.proofs.Found.{take_at}
use Rattle.resolution_check.specs.Earned.{has_var, vars_differ}
use Rattle.resolution_check.proofs.Literals.{same_lit, same_refl, opposite_twice, has-append}
use Rattle.resolution_check.proofs.Resolvents.{resolvent-pivot, has-resolved}
use Rattle.resolution_check.proofs.Chains.{resolved-push}
use Rattle.resolution_check.proofs.Variables.{apart, gain, has_var_from, itself, lose, no_var, of_var}
use Rattle.resolution_check.proofs.Variables.{same_bool, vars_differ-push}
use Rattle.resolution_check.proofs.Values.{same_fails, not_both, some_value}
use Rattle.resolution_check.proofs.Values.{value_of-keeps, value_of-last, value_of-other, value_of-none}
use Rattle.clause_arena.specs.Store.{Store}
use Rattle.clause_arena.specs.Held.{held_in}
use Rattle.conflict_analysis.specs.Lessons.{IsFollowed, IsLesson}

-- ---- the front of a trail

front_value : (ss : List Lit) (at v : ℕ) (b : Bool) → value_of (take at ss) v ≡ Some b → value_of ss v ≡ Some b
front_value ss at v b h =
    ap (λ l. value_of l v) (sym (take-append-drop at ss)) ∙ value_of-keeps (take at ss) (drop at ss) v b h

pub front_fails : (ss : List Lit) (at : ℕ) (l : Lit) → fails (take at ss) l ≡ true → fails ss l ≡ true
front_fails ss at l h = by (value_of (take at ss) l.var) refl h
  where
    by : (o : Option Bool) → value_of (take at ss) l.var ≡ o → is_value o l.negated ≡ true → fails ss l ≡ true
    by None e g = absurd (false≢true g)
    by (Some b) e g = ap (λ o. is_value o l.negated) (front_value ss at l.var b e) ∙ g

-- ---- one step followed back

module _ (ss : List Lit) (at : ℕ) (t : Lit) (there : slice_get ss at ≡ Some t)
    (fresh : value_of (take at ss) t.var ≡ None) where
  -- the step's own value
  own_next : value_of (take (at + 1) ss) t.var ≡ Some (not t.negated)
  own_next = ap (λ l. value_of l t.var) (take_at ss at t there) ∙ value_of-last (take at ss) t fresh

  pub own_fails : fails ss (opposite t) ≡ true
  own_fails =
      ap (λ o. is_value o (not t.negated)) (front_value ss (at + 1) t.var (not t.negated) own_next)
      ∙ itself (not t.negated)

  -- every other variable has the same value before the step
  pub nearer : (v : ℕ) → (t.var == v) ≡ false → value_of (take (at + 1) ss) v ≡ value_of (take at ss) v
  nearer v other = ap (λ l. value_of l v) (take_at ss at t there) ∙ value_of-other (take at ss) t v other

  pub none_before : (v : ℕ) → value_of (take (at + 1) ss) v ≡ None → value_of (take at ss) v ≡ None
  none_before v h = value_of-none (take at ss) (t ∷ []) v (ap (λ l. value_of l v) (sym (take_at ss at t there)) ∙ h)

  other_var : (l : Lit) → is_same (opposite t) l ≡ false → fails ss l ≡ true → (t.var == l.var) ≡ false
  other_var l unlike h = elim (cases_Bool (t.var == l.var)) [
    | inl here ↦
        let e : opposite t ≡ l =
        same_fails ss (opposite t) l (eqb-true t.var l.var here) own_fails h in
        absurd (false≢true (sym unlike ∙ ap (is_same (opposite t)) (sym e) ∙ same_refl (opposite t)))
    | inr other ↦ other
  ]

  unlike_other : (l : Lit) → (t.var == l.var) ≡ false → is_same (opposite t) l ≡ false
  unlike_other l other = apart (opposite t) l other

  -- a literal whose step is behind is not the step's
  pub not_behind : (l : Lit) → value_of (take (at + 1) ss) l.var ≡ None → l.var ≡ t.var → ⊥
  not_behind l none e =
      let both : None ≡ Some (not t.negated) =
      sym none ∙ ap (value_of (take (at + 1) ss)) e ∙ own_next in absurd (cc)

  unlike_behind : (l : Lit) → value_of (take (at + 1) ss) l.var ≡ None → is_same (opposite t) l ≡ false
  unlike_behind l none = elim (cases_Bool (is_same (opposite t) l)) [
    | inl same ↦ absurd (not_behind l none (sym (ap (λ (m : Lit). m.var) (same_lit (opposite t) l same))))
    | inr other ↦ other
  ]

  module _ (a : Store) (marks marks' : ℕ → Bool) (lits : List Lit) (chain : List ℕ)
      (f : IsFollowed a ss (at + 1) marks lits chain) where
    -- the literal that is followed stands in the resolvent
    pub stands : marks t.var ≡ true → has f.clause (opposite t) ≡ true
    stands marked = f.parts (opposite t) ∙ or_right (has lits (opposite t)) _ (and_from _ _ marked own_fails)

    all_false : (l : Lit) → has f.clause l ≡ true → fails ss l ≡ true
    all_false l h =
        elim (or_cases _ _ (sym (f.parts l) ∙ h)) [
          | inl kept ↦ f.kept_false l kept
          | inr pending ↦ (and_parts _ _ pending).1
        ]

    before_it : (v : ℕ) → (t.var == v) ≡ false → marks v ≡ true → is_some (value_of (take at ss) v) ≡ true
    before_it v other m = ap is_some (sym (nearer v other)) ∙ f.to_come v m

    -- a step whose variable is not marked
    pub followed_past : marks t.var ≡ false → IsFollowed a ss at marks lits chain
    followed_past unmarked = record {
      clause = f.clause;
      resolves = f.resolves;
      parts = f.parts;
      kept_false = f.kept_false;
      to_come = λ v m. elim (cases_Bool (t.var == v)) [
        | inl here ↦ absurd (false≢true (sym unmarked ∙ ap marks (eqb-true t.var v here) ∙ m))
        | inr other ↦ before_it v other m
      ];
      behind = λ l h. none_before l.var (f.behind l h);
      once = f.once;
    }

    -- a literal that is kept
    pub followed_kept : (lits' : List Lit) → lits' ≡ lits ++ opposite t ∷ []
        → marks t.var ≡ true → ((v : ℕ) → marks' v ≡ cond (t.var == v) false (marks v))
        → IsFollowed a ss at marks' lits' chain
    followed_kept lits' e marked new =
        let p = opposite t in
        let more : (l : Lit) → has lits' l ≡ (has lits l || has (p ∷ []) l) =
        λ l. ap (λ c. has c l) e ∙ has-append lits (p ∷ []) l in
        let last : (l : Lit) → has (p ∷ []) l ≡ true → l ≡ p =
        λ l h. elim (or_cases _ _ h) [ inl same ↦ same_lit l p same | inr none ↦ absurd (false≢true none) ] in
        record {
          clause = f.clause;
          resolves = f.resolves;
          parts = λ l. same_bool (has f.clause l) (has lits' l || (marks' l.var && fails ss l))
              (λ h. elim (or_cases _ _ (sym (f.parts l) ∙ h)) [
                | inl kept ↦ or_left _ _ (more l ∙ or_left _ _ kept)
                | inr pending ↦
                    let both = and_parts _ _ pending in
                    elim (cases_Bool (t.var == l.var)) [
                      | inl here ↦
                          let same : p ≡ l =
                          same_fails ss p l (eqb-true t.var l.var here) own_fails both.1 in
                          or_left _ _
                          (more l ∙ or_right (has lits l) _ (or_left _ false (ap (is_same l) same ∙ same_refl l)))
                      | inr other ↦ or_right (has lits' l) _ (and_from _ _ (new l.var ∙ gain _ _ other both.0) both.1)
                    ]
              ])
              (λ h. elim (or_cases _ _ h) [
                | inl kept ↦ elim (or_cases _ _ (sym (more l) ∙ kept)) [
                  | inl before ↦ f.parts l ∙ or_left _ _ before
                  | inr here ↦ ap (has f.clause) (last l here) ∙ stands marked
                ]
                | inr pending ↦
                    let both = and_parts _ _ pending in
                    f.parts l ∙ or_right (has lits l) _ (and_from _ _ (lose _ _ (sym (new l.var) ∙ both.0)).1 both.1)
              ]);
          kept_false = λ l h. elim (or_cases _ _ (sym (more l) ∙ h)) [
            | inl before ↦ f.kept_false l before
            | inr here ↦ ap (fails ss) (last l here) ∙ own_fails
          ];
          to_come = λ v m. let both = lose _ _ (sym (new v) ∙ m) in before_it v both.0 both.1;
          behind = λ l h. elim (or_cases _ _ (sym (more l) ∙ h)) [
            | inl before ↦ none_before l.var (f.behind l before)
            | inr here ↦ ap (λ (m : Lit). value_of (take at ss) m.var) (last l here) ∙ fresh
          ];
          once = ap vars_differ e
              ∙ vars_differ-push lits p f.once (no_var lits t.var (λ l h. not_behind l (f.behind l h)));
        }

    module _ (id : ℕ) (c : List Lit) (held : held_in a id ≡ Some (record { lits = c })) (inside : has c t ≡ true)
        (others : OthersFail (take at ss) c t) where
      -- the other literals of the step's clause are false
      rest_fails : (l : Lit) → has c l ≡ true → is_same t l ≡ false → fails (take at ss) l ≡ true
      rest_fails l h unlike =
          elim (others l h) [
            | inl e ↦ absurd (false≢true (sym unlike ∙ ap (is_same t) e ∙ same_refl t))
            | inr g ↦ g
          ]

      not_own : (l : Lit) → fails (take at ss) l ≡ true → (t.var == l.var) ≡ false
      not_own l h = elim (cases_Bool (t.var == l.var)) [
        | inl here ↦
            let some : is_some (value_of (take at ss) t.var) ≡ true =
            ap (λ v. is_some (value_of (take at ss) v)) (eqb-true t.var l.var here) ∙ some_value _ _ h in
            absurd (false≢true (sym (ap is_some fresh) ∙ some))
        | inr other ↦ other
      ]

      back : (l : Lit) → opposite l ≡ t → l ≡ opposite t
      back l e = sym (opposite_twice l) ∙ ap opposite e

      pivot : marks t.var ≡ true → IsPivot f.clause c (opposite t)
      pivot marked = record {
        first = stands marked;
        second = ap (has c) (opposite_twice t) ∙ inside;
        only = λ l h g. elim (others (opposite l) g) [
          | inl e ↦ back l e
          | inr falls ↦ absurd (not_both ss l (all_false l h) (front_fails ss at (opposite l) falls))
        ];
      }

      next : List Lit
      next = without f.clause (opposite t) ++ without c (opposite (opposite t))

      resolves_next : (chain' : List ℕ) → chain' ≡ chain ++ id ∷ [] → marks t.var ≡ true
          → resolved (held_in a) chain'
          ≡ Ok (without f.clause (opposite t) ++ without c (opposite (opposite t)))
      resolves_next chain' e marked =
          ap (resolved (held_in a)) e
          ∙ resolved-push (held_in a) chain id f.clause f.resolves
          ∙ ap (λ o. option_map_or (λ (k : Clause). ok_or (resolvent f.clause k.lits) (NoPivot (length chain))) o
          (Err (UnknownId id))) held
          ∙ ap (λ o. ok_or o (NoPivot (length chain)))
          (resolvent-pivot f.clause c (opposite t) (pivot marked))

      -- a forced literal
      pub followed_forced : (chain' : List ℕ) → chain' ≡ chain ++ id ∷ [] → marks t.var ≡ true
          → ((v : ℕ) → marks' v ≡ cond (t.var == v) false (has_var c v || marks v))
          → IsFollowed a ss at marks' lits chain'
      followed_forced chain' e marked new =
          let p = opposite t in
          record {
            clause = without f.clause p ++ without c (opposite p);
            resolves = resolves_next chain' e marked;
            parts =
                λ l. same_bool (has (without f.clause p ++ without c (opposite p)) l) (has lits l
                || (marks' l.var && fails ss l))
                (λ h. elim (or_cases _ _ (sym (has-resolved f.clause c p l) ∙ h)) [
                  | inl first ↦
                      let both = and_parts _ _ first in
                      elim (or_cases _ _ (sym (f.parts l) ∙ both.1)) [
                        | inl kept ↦ or_left _ _ kept
                        | inr pending ↦
                            let parts = and_parts _ _ pending in
                            or_right (has lits l) _
                            (and_from _ _ (new l.var
                            ∙ gain _ _ (other_var l (not-true _ both.0) parts.1)
                            (or_right (has_var c l.var) _ parts.0)) parts.1)
                      ]
                  | inr second ↦
                      let both = and_parts _ _ second in
                      let unlike : is_same t l ≡ false =
                      ap (λ k. is_same k l) (sym (opposite_twice t)) ∙ not-true _ both.0 in
                      let falls = rest_fails l both.1 unlike in
                      or_right (has lits l) _
                      (and_from _ _ (new l.var ∙ gain _ _ (not_own l falls) (or_left _ _ (has_var_from c l both.1)))
                      (front_fails ss at l falls))
                ])
                (λ h. has-resolved f.clause c p l ∙ elim (or_cases _ _ h) [
                  | inl kept ↦ or_left _ _
                      (and_from _ _ (not_from_false _ (unlike_behind l (f.behind l kept))) (f.parts l
                      ∙ or_left _ _ kept))
                  | inr pending ↦
                      let both = and_parts _ _ pending in
                      let lost = lose _ _ (sym (new l.var) ∙ both.0) in
                      elim (or_cases _ _ lost.1) [
                        | inl of_clause ↦
                            let found = of_var c l.var of_clause in
                            let other : (t.var == found.0.var) ≡ false =
                            ap (λ v. t.var == v) found.2 ∙ lost.0 in
                            let falls = rest_fails found.0 found.1 (apart t found.0 other) in
                            let same : found.0 ≡ l =
                            same_fails ss found.0 l found.2 (front_fails ss at found.0 falls) both.1 in
                            let unlike : is_same (opposite p) l ≡ false = apart (opposite p) l lost.0 in
                            or_right (not (is_same p l) && has f.clause l) _
                            (and_from _ _ (not_from_false _ unlike) (ap (has c) (sym same) ∙ found.1))
                        | inr before ↦ or_left _ _
                            (and_from _ _ (not_from_false _ (unlike_other l lost.0)) (f.parts l
                            ∙ or_right (has lits l) _ (and_from _ _ before both.1)))
                      ]
                ]);
            kept_false = f.kept_false;
            to_come = λ v m.
                let lost = lose _ _ (sym (new v) ∙ m) in
                elim (or_cases _ _ lost.1) [
                  | inl of_clause ↦
                      let found = of_var c v of_clause in
                      let other : (t.var == found.0.var) ≡ false = ap (λ w. t.var == w) found.2 ∙ lost.0 in
                      ap (λ w. is_some (value_of (take at ss) w)) (sym found.2)
                      ∙ some_value _ _ (rest_fails found.0 found.1 (apart t found.0 other))
                  | inr before ↦ before_it v lost.0 before
                ];
            behind = λ l h. none_before l.var (f.behind l h);
            once = f.once;
          }

-- ---- the first clause and the last

pub followed_first : (a : Store) (ss c : List Lit) (id : ℕ) (marks : ℕ → Bool)
    → held_in a id ≡ Some (record { lits = c }) → AllFail ss c
    → ((v : ℕ) → marks v ≡ has_var c v) → IsFollowed a ss (length ss) marks [] (id ∷ [])
followed_first a ss c id marks held falls new =
    record {
      clause = c;
      resolves = ap (λ o. option_map_or (λ (k : Clause). resolved_from (held_in a) k.lits 1 []) o
          (Err (UnknownId id))) held;
      parts = λ l. same_bool (has c l) (marks l.var && fails ss l)
          (λ h. and_from _ _ (new l.var ∙ has_var_from c l h) (falls l h))
          (λ h.
          let both = and_parts _ _ h in
          let found = of_var c l.var (sym (new l.var) ∙ both.0) in
          let same : found.0 ≡ l = same_fails ss found.0 l found.2 (falls found.0 found.1) both.1 in
          ap (has c) (sym same) ∙ found.1);
      kept_false = λ l h. absurd (false≢true h);
      to_come = λ v m.
          let found = of_var c v (sym (new v) ∙ m) in
          ap (λ t. is_some (value_of t v)) (take-length ss) ∙ ap (λ w. is_some (value_of ss w)) (sym found.2)
          ∙ some_value _ _ (falls found.0 found.1);
      behind = λ l h. absurd (false≢true h);
      once = refl;
    }

-- nothing is marked once all steps were followed
pub unmarked : (a : Store) (ss : List Lit) (marks : ℕ → Bool) (lits : List Lit) (chain : List ℕ)
    → IsFollowed a ss 0 marks lits chain → (v : ℕ) → marks v ≡ false
unmarked a ss marks lits chain f v =
    elim (cases_Bool (marks v)) [ inl m ↦ absurd (false≢true (f.to_come v m)) | inr none ↦ none ]

pub lesson_from : (a : Store) (ss : List Lit) (marks : ℕ → Bool) (lits : List Lit) (chain : List ℕ)
    → IsFollowed a ss 0 marks lits chain → IsLesson a ss lits chain
lesson_from a ss marks lits chain f = record {
  clause = f.clause;
  resolves = f.resolves;
  same = λ l. f.parts l ∙ ap (λ b. has lits l || (b && fails ss l)) (unmarked a ss marks lits chain f l.var)
      ∙ or-false (has lits l);
  false_all = f.kept_false;
  once = f.once;
}
