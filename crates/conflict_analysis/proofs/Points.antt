-- Steps that are followed back up to the first unique implication point, and behind it.
use Rattle.std.proofs.Common.{◌≡◌, ◌⊎◌, ℕ, zero, suc, ◌+◌, ◌<◌, ◌≤◌, ◌==◌, Bool, true, false, cond, ◌||◌}
use Rattle.std.proofs.Common.{List, [], ◌∷◌, ◌++◌, length, length-append, take, slice_get, Option, Some, None, is_some}
use Rattle.std.proofs.Common.{Result, Ok, inl, inr, refl, sym, ap, ◌∙◌, subst, arith}
use Rattle.std.proofs.lemmas.Bool.{cases_Bool, cases_lt, eq-eqb, eqb-true, false≢true, true≢false, or_cases, or_left}
use Rattle.std.proofs.lemmas.Bool.{or_right, and_from}
use Rattle.std.proofs.lemmas.List.{take-append-le, take_all}
use Rattle.std.proofs.lemmas.Option.{slice_get_within}
use Rattle.resolution_check.specs.declared.log.Lit.{Lit}
use Rattle.resolution_check.specs.declared.log.Bad.{Bad}
use Rattle.resolution_check.specs.Clauses.{opposite, has}
use Rattle.resolution_check.specs.Earned.{has_var}
use Rattle.resolution_check.specs.Entries.{resolved}
use Rattle.resolution_check.specs.Trails.{value_of, AllFail, OthersFail}
use Rattle.resolution_check.proofs.Literals.{same_lit, same_refl, has-append}
use Rattle.resolution_check.proofs.Values.{some_value}
use Rattle.resolution_check.proofs.Variables.{gain, has_var_from, lose, of_var}
use Rattle.clause_arena.specs.declared.names.ClauseRef.{ClauseRef}
use Rattle.clause_arena.specs.Links.{word}
use Rattle.clause_arena.specs.Store.{Store}
use Rattle.clause_arena.specs.Held.{held_in}
use Rattle.conflict_analysis.specs.Steps.{NeverFalls, OpensLevel}
use Rattle.conflict_analysis.specs.Levels.{level_of, NeverRises, Stays, IsTop}
use Rattle.conflict_analysis.specs.Lessons.{IsFollowed, IsBeforePoint, IsBehindPoint, IsOnWay, IsPointed}
use Rattle.conflict_analysis.proofs.Levels.{step_of, step_there, step_later, level_there, seen_before}
use Rattle.conflict_analysis.proofs.Followed.{own_fails, nearer, stands, followed_past, followed_kept, followed_forced}
use Rattle.conflict_analysis.proofs.Followed.{followed_first, unmarked}

-- ---- lists

rises_push : (steps : List Lit) (levels : List ℕ) (lits : List Lit) (p : Lit) → NeverRises steps levels lits
    → ((k : Lit) → has lits k ≡ true → level_of steps levels p.var ≤ level_of steps levels k.var)
    → NeverRises steps levels (lits ++ p ∷ [])
rises_push steps levels [] p order low = (λ k h. absurd (false≢true h), tt)
rises_push steps levels (l ∷ lits) p order low = (
  λ k h. elim (or_cases _ _ (sym (has-append lits (p ∷ []) k) ∙ h)) [
    | inl before ↦ order.0 k before
    | inr last ↦ elim (or_cases _ _ last) [
      | inl same ↦ subst (λ (m : Lit). level_of steps levels m.var ≤ level_of steps levels l.var)
          (sym (same_lit k p same)) (low l (or_left _ _ (same_refl l)))
      | inr none ↦ absurd (false≢true none)
    ]
  ],
  rises_push steps levels lits p order.1 (λ k h. low k (or_right _ _ h)),
)

first_stays : (lits more : List Lit) (l : Lit) → slice_get lits 0 ≡ Some l → slice_get (lits ++ more) 0 ≡ Some l
first_stays [] more l h = absurd (cc)
first_stays (k ∷ lits) more l h = h

-- the first literal is one of the clause
pub first_has : (lits : List Lit) (l : Lit) → slice_get lits 0 ≡ Some l → has lits l ≡ true
first_has [] l h = absurd (cc)
first_has (k ∷ lits) l h =
    let e : k ≡ l = cc in subst (λ (m : Lit). has (k ∷ lits) m ≡ true) e (or_left _ _ (same_refl k))

same_clause : (o : Result (List Lit) Bad) (r c : List Lit) → o ≡ Ok r → o ≡ Ok c → r ≡ c
same_clause o r c h k = cc

-- ---- one step followed back

module _ (a : Store) (ss : List Lit) (levels : List ℕ) (top : ℕ) (len : length levels ≡ length ss)
    (rising : NeverFalls levels)
    (fresh_all : (at : ℕ) (l : Lit) → slice_get ss at ≡ Some l → value_of (take at ss) l.var ≡ None) where
  -- the level of a step's variable
  step_level : (at : ℕ) (l : Lit) → slice_get ss at ≡ Some l → level_of ss levels l.var ≡ word levels at
  step_level at l there =
      level_there ss levels l.var at len (record { lit = l; there = there; own = refl; fresh = fresh_all at l there })

  module _ (at : ℕ) (t : Lit) (there : slice_get ss at ≡ Some t) where
    fresh : value_of (take at ss) t.var ≡ None
    fresh = fresh_all at t there

    own_level : level_of ss levels t.var ≡ word levels at
    own_level = step_level at t there

    -- a variable with a value before the step is of no higher level
    before_low : (v : ℕ) → is_some (value_of (take at ss) v) ≡ true → level_of ss levels v ≤ word levels at
    before_low v h =
        let found = step_of ss at v h in
        let early : found.0 < at = found.1 in
        let within : at < length ss = slice_get_within ss at t there in
        let e : level_of ss levels v ≡ word levels found.0 = level_there ss levels v found.0 len found.2 in
        let low : word levels found.0 ≤ word levels at = rising found.0 at (omega arith) (omega arith) in omega arith

    -- a variable whose step is behind is of no lower level
    behind_high : (v : ℕ) → value_of (take (at + 1) ss) v ≡ None → is_some (value_of ss v) ≡ true
        → word levels at ≤ level_of ss levels v
    behind_high v none some =
        let found = step_later ss (at + 1) v none some in
        let late : at + 1 ≤ found.0 = found.1 in
        let within : found.0 < length ss = slice_get_within ss found.0 found.2.lit found.2.there in
        let e : level_of ss levels v ≡ word levels found.0 = level_there ss levels v found.0 len found.2 in
        let low : word levels at ≤ word levels found.0 = rising at found.0 (omega arith) (omega arith) in omega arith

    -- a step before has another variable
    other_step : (j : ℕ) (l : Lit) → j < at → slice_get ss j ≡ Some l → (t.var == l.var) ≡ false
    other_step j l early is = elim (cases_Bool (t.var == l.var)) [
      | inr other ↦ other
      | inl here ↦ absurd (false≢true (sym (ap is_some fresh)
          ∙ ap (λ v. is_some (value_of (take at ss) v)) (eqb-true t.var l.var here)
          ∙ seen_before ss at j l early is))
    ]

    module _ (marks marks' : ℕ → Bool) (lits : List Lit) (chain : List ℕ)
        (w : IsOnWay a ss levels top (at + 1) marks lits chain) where
      -- a step that is not marked
      pub way_past : marks t.var ≡ false → IsOnWay a ss levels top at marks lits chain
      way_past none = record {
        followed = followed_past ss at t there fresh a marks marks' lits chain w.followed none;
        none_higher = w.none_higher;
        order = w.order;
        phase = w.phase;
      }

      -- the variables of other marked steps have values before the step
      marked_before : (v : ℕ) → (t.var == v) ≡ false → marks v ≡ true → is_some (value_of (take at ss) v) ≡ true
      marked_before v other m = ap is_some (sym (nearer ss at t there fresh v other)) ∙ w.followed.to_come v m

      module _ (marked : marks t.var ≡ true) where
        own_low : word levels at ≤ top
        own_low =
            let high : level_of ss levels t.var ≤ top = w.none_higher t.var marked in
            let e : level_of ss levels t.var ≡ word levels at = own_level in omega arith

        in_clause : has w.followed.clause (opposite t) ≡ true
        in_clause = stands ss at t there fresh a marks marks' lits chain w.followed marked

        -- before the point the step is of the top level
        at_top : IsBeforePoint a ss levels top marks lits chain → word levels at ≡ top
        at_top b = elim (cases_Bool (t.var == b.var)) [
          | inl here ↦ sym own_level ∙ ap (level_of ss levels) (eqb-true t.var b.var here) ∙ b.own
          | inr other ↦
              let low : level_of ss levels b.var ≤ word levels at =
              before_low b.var (marked_before b.var other b.is_marked) in
              let own : level_of ss levels b.var ≡ top = b.own in
              let high : word levels at ≤ top = own_low in omega arith
        ]

        -- ---- a literal that is kept

        module _ (reasons : List (Option ClauseRef)) (kept : Bool) (s : Stays a ss levels reasons marks top at kept)
            (keeps : (kept ≡ true) ⊎ OpensLevel levels at) (lits' : List Lit) (e : lits' ≡ lits ++ opposite t ∷ [])
            (new : (v : ℕ) → marks' v ≡ cond (t.var == v) false (marks v)) where
          above : 0 < word levels at
          above = elim keeps [
            | inl is ↦ elim (cases_lt 0 (word levels at)) [
              | inl high ↦ high
              | inr low ↦ absurd (true≢false (sym is ∙ s.ground (omega arith)))
            ]
            | inr opens ↦ opens.above
          ]

          kept_order : NeverRises ss levels lits'
          kept_order = subst (NeverRises ss levels) (sym e) (rises_push ss levels lits (opposite t) w.order (λ k h.
              let high : word levels at ≤ level_of ss levels k.var =
              behind_high k.var (w.followed.behind k h) (some_value _ _ (w.followed.kept_false k h)) in
              let own : level_of ss levels t.var ≡ word levels at = own_level in
              let low : level_of ss levels t.var ≤ level_of ss levels k.var = omega arith in low))

          -- behind a step of the top level that is kept no other one of it is marked
          rest_lower : word levels at ≡ top → (v : ℕ) → marks' v ≡ true → level_of ss levels v < top
          rest_lower is v m =
              let both = lose _ _ (sym (new v) ∙ m) in
              let found = step_of ss at v (marked_before v both.0 both.1) in
              let early : found.0 < at = found.1 in
              let level : level_of ss levels v ≡ word levels found.0 = level_there ss levels v found.0 len found.2 in
              elim keeps [
                | inl stay ↦ elim (cases_lt (word levels found.0) top) [
                  | inl low ↦ omega arith
                  | inr high ↦
                      let none = s.last stay (omega arith) in
                      let un : marks found.2.lit.var ≡ false =
                      none.none found.0 found.2.lit (omega arith) early found.2.there high in
                      absurd (false≢true (sym un ∙ ap marks found.2.own ∙ both.1))
                ]
                | inr opens ↦
                    let low : word levels found.0 < word levels at = opens.first found.0 early in omega arith
              ]

          point_kept : IsBeforePoint a ss levels top marks lits chain
              → IsBehindPoint a ss levels top marks' lits' chain
          point_kept b =
              let f = w.followed in
              let one : lits' ≡ opposite t ∷ [] = e ∙ ap (λ (ls : List Lit). ls ++ opposite t ∷ []) b.none_kept in
              record {
                lit = opposite t;
                point = record {
                  there = ap (λ (ls : List Lit). slice_get ls 0) one;
                  own = own_level ∙ at_top b;
                  beside = λ k h. inl (elim (or_cases _ _ (sym (ap (λ ls. has ls k) one) ∙ h)) [
                    | inl same ↦ same_lit k (opposite t) same
                    | inr none ↦ absurd (false≢true none)
                  ]);
                  first = λ n r k resolves alone. elim (cases_lt n (length chain)) [
                    | inl early ↦ absurd (b.none_alone n r k early resolves alone)
                    | inr all ↦
                        let same : r ≡ f.clause =
                        same_clause (resolved (held_in a) (take n chain)) r f.clause resolves
                        (ap (resolved (held_in a)) (take_all n chain all) ∙ f.resolves) in
                        sym (alone.only (opposite t)
                        (subst (λ (c : List Lit). has c (opposite t) ≡ true) (sym same) in_clause)
                        (own_level ∙ at_top b))
                  ];
                };
                lower = rest_lower (at_top b);
              }

          rest_kept : IsBehindPoint a ss levels top marks lits chain
              → IsBehindPoint a ss levels top marks' lits' chain
          rest_kept b =
              let p = b.point in
              let low : level_of ss levels t.var < top = b.lower t.var marked in
              let own : level_of ss levels t.var ≡ word levels at = own_level in
              let high : 0 < word levels at = above in
              let up : 0 < level_of ss levels t.var = omega arith in
              record {
                lit = b.lit;
                point = record {
                  there = subst (λ (ls : List Lit). slice_get ls 0 ≡ Some b.lit) (sym e)
                      (first_stays lits (opposite t ∷ []) b.lit p.there);
                  own = p.own;
                  beside = λ k h. elim (or_cases _ _ (sym (ap (λ ls. has ls k) e
                      ∙ has-append lits (opposite t ∷ []) k) ∙ h)) [
                        | inl before ↦ p.beside k before
                        | inr last ↦ elim (or_cases _ _ last) [
                          | inl same ↦ inr (subst (λ (m : Lit). (0 < level_of ss levels m.var)
                              × (level_of ss levels m.var < top)) (sym (same_lit k (opposite t) same)) (up, low))
                          | inr none ↦ absurd (false≢true none)
                        ]
                      ];
                  first = p.first;
                };
                lower = λ v m. b.lower v (lose _ _ (sym (new v) ∙ m)).1;
              }

          pub way_kept : IsOnWay a ss levels top at marks' lits' chain
          way_kept = record {
            followed = followed_kept ss at t there fresh a marks marks' lits chain w.followed lits' e marked new;
            none_higher = λ v m. w.none_higher v (lose _ _ (sym (new v) ∙ m)).1;
            order = kept_order;
            phase = elim w.phase [
              | inl ground ↦
                  let z : top ≡ 0 = ground.0 in
                  let high : 0 < word levels at = above in
                  let low : word levels at ≤ top = own_low in absurd (omega arith)
              | inr p ↦ inr (p.0, inr (elim p.1 [ inl before ↦ point_kept before | inr behind ↦ rest_kept behind ]))
            ];
          }

        -- ---- a literal that was forced

        module _ (reasons : List (Option ClauseRef)) (kept : Bool) (s : Stays a ss levels reasons marks top at kept)
            (not_kept : kept ≡ false) (id : ℕ) (c : List Lit) (held : held_in a id ≡ Some (record { lits = c }))
            (inside : has c t ≡ true) (others : OthersFail (take at ss) c t) (chain' : List ℕ)
            (e : chain' ≡ chain ++ id ∷ [])
            (new : (v : ℕ) → marks' v ≡ cond (t.var == v) false (has_var c v || marks v)) where
          next : IsFollowed a ss at marks' lits chain'
          next =
              followed_forced ss at t there fresh a marks marks' lits chain w.followed id c held inside others chain' e
              marked new

          -- what is marked now is of no higher level than the step
          forced_low : (v : ℕ) → marks' v ≡ true → level_of ss levels v ≤ word levels at
          forced_low v m =
              let lost = lose _ _ (sym (new v) ∙ m) in
              elim (or_cases _ _ lost.1) [
                | inl of_clause ↦
                    let found = of_var c v of_clause in
                    elim (others found.0 found.1) [
                      | inl same ↦ absurd (false≢true (sym lost.0
                          ∙ eq-eqb t.var v (ap (λ (m : Lit). m.var) (sym same) ∙ found.2)))
                      | inr falls ↦ before_low v (ap (λ u. is_some (value_of (take at ss) u)) (sym found.2)
                          ∙ some_value _ _ falls)
                    ]
                | inr before ↦ before_low v (marked_before v lost.0 before)
              ]

          front : (n : ℕ) → n ≤ length chain → take n chain' ≡ take n chain
          front n low = ap (take n) e ∙ take-append-le n chain (id ∷ []) low

          longer : length chain' ≡ length chain + 1
          longer = ap length e ∙ length-append chain (id ∷ [])

          another_left : 0 < top → IsBeforePoint a ss levels top marks lits chain
              → IsBeforePoint a ss levels top marks' lits chain'
          another_left high b =
              let f = w.followed in
              let is : word levels at ≡ top = at_top b in
              let m = s.another not_kept (omega arith) (omega arith) in
              let early : m.at < at = m.before in
              let within : at < length ss = slice_get_within ss at t there in
              let reached : top ≤ word levels m.at = m.reached in
              let below : word levels m.at ≤ word levels at = rising m.at at (omega arith) (omega arith) in
              let same_level : word levels m.at ≡ top = omega arith in
              let level : level_of ss levels m.lit.var ≡ top = step_level m.at m.lit m.there ∙ same_level in
              let other : (t.var == m.lit.var) ≡ false = other_step m.at m.lit m.before m.there in
              let falls = own_fails ss m.at m.lit m.there (fresh_all m.at m.lit m.there) in
              let in_too : has f.clause (opposite m.lit) ≡ true =
              f.parts (opposite m.lit) ∙ or_right (has lits (opposite m.lit)) _ (and_from _ _ m.is_marked falls) in
              record {
                none_kept = b.none_kept;
                var = m.lit.var;
                is_marked = new m.lit.var ∙ gain _ _ other (or_right (has_var c m.lit.var) _ m.is_marked);
                own = level;
                none_alone = λ n r k below_end resolves alone.
                    let known : length chain' ≡ length chain + 1 = longer in
                    let prior : resolved (held_in a) (take n chain) ≡ Ok r =
                    ap (resolved (held_in a)) (sym (front n (omega arith))) ∙ resolves in
                    elim (cases_lt n (length chain)) [
                      | inl less ↦ b.none_alone n r k less prior alone
                      | inr all ↦
                          let same : r ≡ f.clause =
                          same_clause (resolved (held_in a) (take n chain)) r f.clause prior
                          (ap (resolved (held_in a)) (take_all n chain all) ∙ f.resolves) in
                          let one : opposite t ≡ k =
                          alone.only (opposite t)
                          (subst (λ (d : List Lit). has d (opposite t) ≡ true) (sym same) in_clause)
                          (own_level ∙ is) in
                          let two : opposite m.lit ≡ k =
                          alone.only (opposite m.lit)
                          (subst (λ (d : List Lit). has d (opposite m.lit) ≡ true) (sym same) in_too) level in
                          false≢true (sym other
                          ∙ eq-eqb t.var m.lit.var (ap (λ (l : Lit). l.var) (one ∙ sym two)))
                    ];
              }

          point_stays : IsBehindPoint a ss levels top marks lits chain
              → IsBehindPoint a ss levels top marks' lits chain'
          point_stays b =
              let p = b.point in
              record {
                lit = b.lit;
                point = record {
                  there = p.there;
                  own = p.own;
                  beside = p.beside;
                  first = λ n r k resolves alone. elim (cases_lt (length chain) n) [
                    | inl more ↦
                        let known : length chain' ≡ length chain + 1 = longer in
                        let same : r ≡ next.clause =
                        same_clause (resolved (held_in a) (take n chain')) r next.clause resolves
                        (ap (resolved (held_in a)) (take_all n chain' (omega arith)) ∙ next.resolves) in
                        sym (alone.only b.lit
                        (subst (λ (d : List Lit). has d b.lit ≡ true) (sym same)
                        (next.parts b.lit ∙ or_left _ _ (first_has lits b.lit p.there)))
                        p.own)
                    | inr early ↦ p.first n r k (ap (resolved (held_in a)) (sym (front n early)) ∙ resolves) alone
                  ];
                };
                lower = λ v m.
                    let low : level_of ss levels v ≤ word levels at = forced_low v m in
                    let own : level_of ss levels t.var ≡ word levels at = own_level in
                    let high : level_of ss levels t.var < top = b.lower t.var marked in omega arith;
              }

          pub way_forced : IsOnWay a ss levels top at marks' lits chain'
          way_forced = record {
            followed = next;
            none_higher = λ v m.
                let low : level_of ss levels v ≤ word levels at = forced_low v m in
                let high : word levels at ≤ top = own_low in omega arith;
            order = w.order;
            phase = elim w.phase [
              | inl ground ↦ inl ground
              | inr p ↦ inr (
                p.0,
                elim p.1 [
                  | inl before ↦ inl (another_left p.0 before)
                  | inr behind ↦ inr (point_stays behind)
                ],
              )
            ];
          }

  -- ---- the first clause and the last

  module _ (c : List Lit) (marks : ℕ → Bool) (falls : AllFail ss c) (new : (v : ℕ) → marks v ≡ has_var c v)
      (is_top : IsTop ss levels marks top) where
    marked_level : (v : ℕ) → is_some (value_of ss v) ≡ true → marks v ≡ true → level_of ss levels v ≤ top
    marked_level v some m =
        let found = step_there ss v some in
        let e : level_of ss levels v ≡ word levels found.0 = level_there ss levels v found.0 len found.2 in
        let high : word levels found.0 ≤ top =
        is_top.none_higher found.0 found.2.lit found.2.there (ap marks found.2.own ∙ m) in omega arith

    clause_level : (v : ℕ) → marks v ≡ true → level_of ss levels v ≤ top
    clause_level v m =
        let found = of_var c v (sym (new v) ∙ m) in
        marked_level v (ap (λ w. is_some (value_of ss w)) (sym found.2) ∙ some_value _ _ (falls found.0 found.1)) m

    none_yet : (id n : ℕ) (r : List Lit) → n < 1 → resolved (held_in a) (take n (id ∷ [])) ≡ Ok r → ⊥
    none_yet id zero r low h = absurd (cc)
    none_yet id (suc n) r low h = absurd (omega arith)

    pub way_first : (id : ℕ) → held_in a id ≡ Some (record { lits = c })
        → IsOnWay a ss levels top (length ss) marks [] (id ∷ [])
    way_first id held = record {
      followed = followed_first a ss c id marks held falls new;
      none_higher = clause_level;
      order = tt;
      phase = elim (cases_lt 0 top) [
        | inr low ↦ inl (omega arith, refl)
        | inl high ↦
            let m = is_top.reached high in
            let reached : top ≤ word levels m.at = m.reached in
            let within : word levels m.at ≤ top = is_top.none_higher m.at m.lit m.there m.is_marked in
            let same : word levels m.at ≡ top = omega arith in
            inr (
              high,
              inl (record {
                none_kept = refl;
                var = m.lit.var;
                is_marked = m.is_marked;
                own = step_level m.at m.lit m.there ∙ same;
                none_alone = λ n r k low resolves alone. none_yet id n r low resolves;
              }),
            )
      ];
    }

    -- what the last step leaves, as it is said of the whole analysis
    pub pointed : (marks' : ℕ → Bool) (lits : List Lit) (chain : List ℕ) → IsOnWay a ss levels top 0 marks' lits chain
        → IsPointed a ss levels c lits chain
    pointed marks' lits chain w = record {
      top = top;
      highest = λ l h. clause_level l.var (new l.var ∙ has_var_from c l h);
      reached = λ high.
          let m = is_top.reached high in
          let reached : top ≤ word levels m.at = m.reached in
          let within : word levels m.at ≤ top = is_top.none_higher m.at m.lit m.there m.is_marked in
          let same : word levels m.at ≡ top = omega arith in
          let found = of_var c m.lit.var (sym (new m.lit.var) ∙ m.is_marked) in
          (found.0, found.1, ap (level_of ss levels) found.2 ∙ step_level m.at m.lit m.there ∙ same);
      ground = λ z. elim w.phase [
        | inl ground ↦ ground.1
        | inr p ↦ let high = p.0 in absurd (omega arith)
      ];
      point = λ high. elim w.phase [
        | inl ground ↦ let z = ground.0 in absurd (omega arith)
        | inr p ↦ elim p.1 [
          | inl before ↦ absurd (false≢true
              (sym (unmarked a ss marks' lits chain w.followed before.var) ∙ before.is_marked))
          | inr behind ↦ (behind.lit, behind.point)
        ]
      ];
    }
