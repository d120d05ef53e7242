-- What is learnt contains no clause that is held, and the level to go back to is the least one.
use Rattle.std.proofs.Common.{◌≡◌, ◌⊎◌, ℕ, ◌+◌, ◌-◌, ◌<◌, ◌≤◌, Bool, true, false, not, List, []}
use Rattle.std.proofs.Common.{◌∷◌, length, take}
use Rattle.std.proofs.Common.{slice_get, Some, None, is_some, inl, inr, refl, sym, ap, ◌∙◌, subst, arith}
use Rattle.std.proofs.lemmas.Bool.{cases_Bool, eq-eqb, false≢true, true≢false, or_cases, or_left, or_right}
use Rattle.std.proofs.lemmas.Bool.{and_parts, not-true}
use Rattle.std.proofs.lemmas.Option.{get_or_from_slice_get}
use Rattle.resolution_check.specs.declared.log.Lit.{Lit}
use Rattle.resolution_check.specs.declared.log.Clause.{Clause}
use Rattle.resolution_check.specs.Clauses.{opposite, is_same, has, is_inside}
use Rattle.resolution_check.specs.Earned.{has_var, vars_differ}
use Rattle.resolution_check.specs.Entries.{is_empty}
use Rattle.resolution_check.specs.Trails.{value_of, is_value, holds, fails, IsSettled}
use Rattle.resolution_check.proofs.Literals.{same_lit, same_refl, all_at}
use Rattle.resolution_check.proofs.Values.{some_value, not_both}
use Rattle.clause_arena.specs.Links.{word}
use Rattle.clause_arena.specs.Store.{Store}
use Rattle.clause_arena.specs.Held.{held_in}
use Rattle.conflict_analysis.specs.Steps.{NeverFalls}
use Rattle.conflict_analysis.specs.Levels.{level_of, count_to, steps_to, AreFilled, AreFull, ContainsNone, NeverRises}
use Rattle.conflict_analysis.specs.Lessons.{IsOnWay, IsBehindPoint, IsLevelOf, IsSecond, IsBack}
use Rattle.conflict_analysis.proofs.Levels.{step_there, level_there, value_low, value_high, opened}
use Rattle.conflict_analysis.proofs.Points.{first_has}
use Rattle.conflict_analysis.proofs.Followed.{unmarked}

-- a literal of a clause that is not empty
some_of : (c : List Lit) → is_empty c ≡ false → (x : Lit) × (has c x ≡ true)
some_of [] h = absurd (true≢false h)
some_of (x ∷ c) h = (x, or_left _ _ (same_refl x))

none_fails : (ls : List Lit) (l : Lit) → value_of ls l.var ≡ None → fails ls l ≡ true → ⊥
none_fails ls l none h = false≢true (sym (ap is_some none) ∙ some_value (value_of ls l.var) l.negated h)

none_holds : (ls : List Lit) (l : Lit) → value_of ls l.var ≡ None → holds ls l ≡ true → ⊥
none_holds ls l none h = false≢true (sym (ap is_some none) ∙ some_value (value_of ls l.var) (not l.negated) h)

-- two literals of a clause in which no variable stands twice
two_vars : (x y : Lit) (rest : List Lit) → vars_differ (x ∷ y ∷ rest) ≡ true → y ≡ x → ⊥
two_vars x y rest once e =
    let none : has_var (y ∷ rest) x.var ≡ false = not-true _ (and_parts _ _ once).0 in
    let same : has_var (y ∷ rest) x.var ≡ true =
    or_left _ _ (eq-eqb y.var x.var (ap (λ (l : Lit). l.var) e)) in
    false≢true (sym none ∙ same)

module _ (a : Store) (ss : List Lit) (levels : List ℕ) (top : ℕ) (len : length levels ≡ length ss)
    (rising : NeverFalls levels)
    (fresh_all : (at : ℕ) (l : Lit) → slice_get ss at ≡ Some l → value_of (take at ss) l.var ≡ None)
    (marks : ℕ → Bool) (lits : List Lit) (chain : List ℕ) (w : IsOnWay a ss levels top 0 marks lits chain) where
  has_value : (l : Lit) → has lits l ≡ true → is_some (value_of ss l.var) ≡ true
  has_value l h = some_value _ _ (w.followed.kept_false l h)

  -- a literal of a level up to this one is false there
  fails_low : (level : ℕ) (l : Lit) → has lits l ≡ true → level_of ss levels l.var ≤ level
      → fails (steps_to ss levels level) l ≡ true
  fails_low level l h low =
      ap (λ o. is_value o l.negated) (value_low ss levels level l.var len rising (has_value l h) low)
      ∙ w.followed.kept_false l h

  -- nothing is kept, or the point is
  ended : (lits ≡ []) ⊎ ((0 < top) × IsBehindPoint a ss levels top marks lits chain)
  ended = elim w.phase [
    | inl ground ↦ inl ground.1
    | inr p ↦ elim p.1 [
      | inl before ↦ absurd (false≢true
          (sym (unmarked a ss marks lits chain w.followed before.var) ∙ before.is_marked))
      | inr behind ↦ inr (p.0, behind)
    ]
  ]

  -- ---- no clause that is held is inside

  module _ (below : ℕ) (is : top ≡ below + 1) (b : IsBehindPoint a ss levels top marks lits chain) where
    point_free : value_of (steps_to ss levels below) b.lit.var ≡ None
    point_free =
        let own : level_of ss levels b.lit.var ≡ top = b.point.own in
        value_high ss levels below b.lit.var len (omega arith)

    -- before the point's level the point is free and all others are false
    free_or_false : (l : Lit) → has lits l ≡ true → (l ≡ b.lit) ⊎ (fails (steps_to ss levels below) l ≡ true)
    free_or_false l h = elim (b.point.beside l h) [
      | inl same ↦ inl same
      | inr low ↦ let under : level_of ss levels l.var < top = low.1 in inr (fails_low below l h (omega arith))
    ]

    free_at : (l m : Lit) → l ≡ m → value_of (steps_to ss levels below) m.var ≡ None
        → value_of (steps_to ss levels below) l.var ≡ None
    free_at l m e none = ap (λ (k : Lit). value_of (steps_to ss levels below) k.var) e ∙ none

    is_point : (l : Lit) → has lits l ≡ true → value_of (steps_to ss levels below) l.var ≡ None → l ≡ b.lit
    is_point l h none = elim (free_or_false l h) [
      | inl same ↦ same
      | inr falls ↦ absurd (none_fails (steps_to ss levels below) l none falls)
    ]

    not_settled : (c : List Lit) → is_inside c lits ≡ true → IsSettled (steps_to ss levels below) c → ⊥
    not_settled c inside (inl t) = elim (free_or_false t.lit (all_at (has lits) c inside t.lit t.inside)) [
      | inl same ↦ none_holds (steps_to ss levels below) t.lit (free_at t.lit b.lit same point_free) t.is_true
      | inr falls ↦ not_both (steps_to ss levels below) t.lit falls t.is_true
    ]
    not_settled c inside (inr t) =
        let one : t.one ≡ b.lit = is_point t.one (all_at (has lits) c inside t.one t.inside_one) t.free_one in
        let two : t.two ≡ b.lit = is_point t.two (all_at (has lits) c inside t.two t.inside_two) t.free_two in
        false≢true (sym t.apart ∙ ap (is_same t.one) (two ∙ sym one) ∙ same_refl t.one)

    none_inside : AreFull a ss levels → (id : ℕ) (c : Clause) → held_in a id ≡ Some c
        → is_inside c.lits lits ≡ true → ⊥
    none_inside full id c held inside =
        let found = step_there ss b.lit.var (has_value b.lit (first_has lits b.lit b.point.there)) in
        let within : found.0 < length ss = found.1 in
        let level : level_of ss levels b.lit.var ≡ word levels found.0 =
        level_there ss levels b.lit.var found.0 len found.2 in
        let own : level_of ss levels b.lit.var ≡ top = b.point.own in
        let opens = opened levels below found.0 rising (omega arith) (omega arith) in
        not_settled c.lits inside (full (count_to levels below) id c opens.1 opens.0 held)

  pub contains_none : AreFilled a → AreFull a ss levels → ContainsNone a lits
  contains_none filled full = record {
    outside = λ id c held. elim (cases_Bool (is_inside c.lits lits)) [
      | inr outside ↦ outside
      | inl inside ↦ elim ended [
        | inl none ↦
            let x = some_of c.lits (filled id c held) in
            absurd (false≢true (sym (ap (λ ls. has ls x.0) none) ∙ all_at (has lits) c.lits inside x.0 x.1))
        | inr b ↦
            let high : 0 < top = b.0 in
            absurd (none_inside (top - 1) (omega arith) b.1 full id c held inside)
      ]
    ];
  }

  -- ---- the level to go back to

  level_second : (l : Lit) (level : ℕ) → IsLevelOf ss levels l level → level_of ss levels l.var ≡ level
  level_second l level s =
      level_there ss levels l.var s.at len
      (record { lit = opposite l; there = s.there; own = refl; fresh = fresh_all s.at (opposite l) s.there })
      ∙ get_or_from_slice_get levels s.at level 0 s.own

  free_first : (level : ℕ) (l : Lit) → level < level_of ss levels l.var
      → value_of (steps_to ss levels level) l.var ≡ None
  free_first level l high = value_high ss levels level l.var len high

  pub goes_back : (level : ℕ) → IsSecond ss levels lits level → IsBack ss levels lits level
  goes_back level s = elim ended [
    | inl none ↦ nothing none
    | inr b ↦ by lits refl b.0 b.1
  ]
    where
      nothing : lits ≡ [] → IsBack ss levels lits level
      nothing none =
          let zero_level : level ≡ 0 = s.none (let e : length lits ≡ 0 = ap length none in omega arith) in
          record {
            none = s.none;
            second = s.second;
            unit = λ l h. (let e : slice_get [] 0 ≡ Some l = sym (ap (λ ls. slice_get ls 0) none) ∙ h in absurd (cc));
            least = λ lower l low others. absurd (omega arith);
          }

      alone : (x : Lit) → lits ≡ x ∷ [] → 0 < top → IsBehindPoint a ss levels top marks lits chain
          → IsBack ss levels lits level
      alone x e high b =
          let zero_level : level ≡ 0 = s.none (let n : length lits ≡ 1 = ap length e in omega arith) in
          let first : x ≡ b.lit =
          (let h : slice_get (x ∷ []) 0 ≡ Some b.lit = subst (λ ls. slice_get ls 0 ≡ Some b.lit) e b.point.there in cc)
          in
          record {
            none = s.none;
            second = s.second;
            unit = λ l h.
                let same : x ≡ l = (let g : slice_get (x ∷ []) 0 ≡ Some l =
                subst (λ ls. slice_get ls 0 ≡ Some l) e h in cc) in
                let own : level_of ss levels l.var ≡ top =
                ap (λ (k : Lit). level_of ss levels k.var) (sym same ∙ first) ∙ b.point.own in
                record {
                  inside = first_has lits l h;
                  free = free_first level l (omega arith);
                  others = λ k g. inl (elim (or_cases _ _ (subst (λ ls. has ls k ≡ true) e g)) [
                    | inl here ↦ same_lit k x here ∙ same
                    | inr none ↦ absurd (false≢true none)
                  ]);
                };
            least = λ lower l low others. absurd (omega arith);
          }

      more : (x y : Lit) (rest : List Lit) → lits ≡ x ∷ y ∷ rest → 0 < top
          → IsBehindPoint a ss levels top marks lits chain → IsBack ss levels lits level
      more x y rest e high b =
          let first : x ≡ b.lit =
          (let h : slice_get (x ∷ y ∷ rest) 0 ≡ Some b.lit =
          subst (λ ls. slice_get ls 0 ≡ Some b.lit) e b.point.there in cc) in
          let own : level_of ss levels x.var ≡ top =
          ap (λ (k : Lit). level_of ss levels k.var) first ∙ b.point.own in
          let level_y : level_of ss levels y.var ≡ level =
          level_second y level (s.second y (ap (λ ls. slice_get ls 1) e)) in
          let once : vars_differ (x ∷ y ∷ rest) ≡ true = subst (λ ls. vars_differ ls ≡ true) e w.followed.once in
          let order : NeverRises ss levels (x ∷ y ∷ rest) = subst (NeverRises ss levels) e w.order in
          let in_x : has lits x ≡ true = subst (λ ls. has ls x ≡ true) (sym e) (or_left _ _ (same_refl x)) in
          let in_y : has lits y ≡ true =
          subst (λ ls. has ls y ≡ true) (sym e) (or_right (is_same y x) _ (or_left _ _ (same_refl y))) in
          let low_y : level_of ss levels y.var < top = elim (b.point.beside y in_y) [
            | inl same ↦ absurd (two_vars x y rest once (same ∙ sym first))
            | inr low ↦ low.1
          ] in
          record {
            none = s.none;
            second = s.second;
            unit = λ l h.
                let same : x ≡ l = (let g : slice_get (x ∷ y ∷ rest) 0 ≡ Some l =
                subst (λ ls. slice_get ls 0 ≡ Some l) e h in cc) in
                let own_l : level_of ss levels l.var ≡ top =
                ap (λ (k : Lit). level_of ss levels k.var) (sym same) ∙ own in
                record {
                  inside = first_has lits l h;
                  free = free_first level l (omega arith);
                  others = λ k g. elim (or_cases _ _ (subst (λ ls. has ls k ≡ true) e g)) [
                    | inl here ↦ inl (same_lit k x here ∙ same)
                    | inr later ↦ inr (fails_low level k g (elim (or_cases _ _ later) [
                      | inl here ↦
                          let k_is : level_of ss levels k.var ≡ level_of ss levels y.var =
                          ap (λ (m : Lit). level_of ss levels m.var) (same_lit k y here) in
                          omega arith
                      | inr last ↦
                          let low : level_of ss levels k.var ≤ level_of ss levels y.var = order.1.0 k last in
                          omega arith
                    ]))
                  ];
                };
            least = λ lower l low others.
                let one : x ≡ l = elim (others x in_x) [
                  | inl same ↦ same
                  | inr falls ↦ absurd (none_fails (steps_to ss levels lower) x
                      (free_first lower x (omega arith)) falls)
                ] in
                let two : y ≡ l = elim (others y in_y) [
                  | inl same ↦ same
                  | inr falls ↦ absurd (none_fails (steps_to ss levels lower) y
                      (free_first lower y (omega arith)) falls)
                ] in
                two_vars x y rest once (two ∙ sym one);
          }

      by : (xs : List Lit) → lits ≡ xs → 0 < top → IsBehindPoint a ss levels top marks lits chain
          → IsBack ss levels lits level
      by [] e high b = nothing e
      by (x ∷ []) e high b = alone x e high b
      by (x ∷ y ∷ rest) e high b = more x y rest e high b
