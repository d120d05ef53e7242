-- What an analysis leaves asserts its first literal, once the steps above its level were taken back.
use Rattle.std.proofs.Common.{◌≡◌, ℕ, ◌-◌, ◌<◌, ◌≤◌, List, length, length-take, min, take}
use Rattle.std.proofs.Common.{slice_get, Some, None, is_some, inl, inr, refl, sym, ap, ◌∙◌, arith}
use Rattle.std.proofs.lemmas.Bool.{cases_lt, false≢true}
use Rattle.std.proofs.lemmas.List.{take-take, take_all}
use Rattle.std.proofs.lemmas.Option.{get_or_from_slice_get, slice_get_within}
use Rattle.resolution_check.specs.declared.log.Lit.{Lit}
use Rattle.resolution_check.specs.Clauses.{opposite}
use Rattle.resolution_check.specs.Trails.{value_of, AllFail}
use Rattle.resolution_check.proofs.Values.{some_value}
use Rattle.clause_arena.specs.Links.{word}
use Rattle.conflict_analysis.specs.Steps.{NeverFalls}
use Rattle.conflict_analysis.specs.Levels.{count_to, level_of, steps_to}
use Rattle.conflict_analysis.specs.Lessons.{IsBack, IsLevelOf}
use Rattle.conflict_analysis.proofs.Levels.{count_next, level_there}
use Rattle.conflict_analysis.proofs.Points.{first_has}
use Rattle.watched_search.specs.Trails.{last_level}
use Rattle.watched_search.specs.Watches.{IsAsserting}
use Rattle.watched_search.proofs.Back.{count_is, count_within, last_taken, slice_take, word_take}
use Rattle.watched_search.proofs.Steps.{last_highest}

module _ (lits : List Lit) (levels : List ℕ) (clause : List Lit) (back : ℕ) (first : Lit)
    (len : length levels ≡ length lits) (rising : NeverFalls levels)
    (fresh : (at : ℕ) (l : Lit) → slice_get lits at ≡ Some l → value_of (take at lits) l.var ≡ None)
    (there : slice_get clause 0 ≡ Some first) (falls : AllFail lits clause) (b : IsBack lits levels clause back) where
  -- the level to go back to is below the last one
  pub goes_lower : back < last_level levels
  goes_lower = elim (cases_lt back (last_level levels)) [
    | inl lower ↦ lower
    | inr high ↦
        let count : length levels ≡ count_to levels back =
        count_is levels back (length levels) (omega arith)
        (λ j less. (let h : word levels j ≤ last_level levels = last_highest levels j rising less in omega arith))
        (λ less. absurd (omega arith)) in
        let all : steps_to lits levels back ≡ lits = take_all (count_to levels back) lits (omega arith) in
        let free : value_of lits first.var ≡ None =
        ap (λ ls. value_of ls first.var) (sym all) ∙ (b.unit first there).free in
        absurd (false≢true (sym (ap is_some free) ∙ some_value _ _ (falls first (first_has clause first there))))
  ]

  last_low : last_level (take (count_to levels back) levels) ≤ back
  last_low = last_taken levels back

  module _ (l : Lit) (is : slice_get clause 1 ≡ Some l) where
    -- the second literal's step is left
    step_left : (s : IsLevelOf lits levels l back) → s.at < count_to levels back
    step_left s = elim (cases_lt s.at (count_to levels back)) [
      | inl early ↦ early
      | inr late ↦
          let own : word levels s.at ≡ back = get_or_from_slice_get levels s.at back 0 s.own in
          let within : s.at < length levels = slice_get_within levels s.at back s.own in
          let next : back < word levels (count_to levels back) = count_next levels back (omega arith) in
          let h : word levels (count_to levels back) ≤ word levels s.at =
          rising (count_to levels back) s.at late within in
          absurd (omega arith)
    ]

    pub second_last : level_of (steps_to lits levels back) (take (count_to levels back) levels) l.var
        ≡ last_level (take (count_to levels back) levels)
    second_last =
        let s = b.second l is in
        let n = count_to levels back in
        let early : s.at < count_to levels back = step_left s in
        let within : count_to levels back ≤ length levels = count_within levels back in
        let short : length (take (count_to levels back) levels) ≡ min (count_to levels back) (length levels) =
        length-take (count_to levels back) levels in
        let short_lits : length (take (count_to levels back) lits) ≡ min (count_to levels back) (length lits) =
        length-take (count_to levels back) lits in
        let own : word levels s.at ≡ back = get_or_from_slice_get levels s.at back 0 s.own in
        let kept : word (take (count_to levels back) levels) s.at ≡ word levels s.at =
        word_take levels (count_to levels back) s.at early in
        let level : level_of (steps_to lits levels back) (take (count_to levels back) levels) l.var
        ≡ word (take (count_to levels back) levels) s.at =
        level_there (steps_to lits levels back) (take (count_to levels back) levels) l.var s.at (omega arith)
        (record {
          lit = opposite l;
          there = slice_take lits n s.at (opposite l) early s.there;
          own = refl;
          fresh = ap (λ ls. value_of ls l.var) (take-take s.at n lits (omega arith))
              ∙ fresh s.at (opposite l) s.there;
        }) in
        let at : length (take (count_to levels back) levels) - 1 ≡ count_to levels back - 1 = omega arith in
        let last : last_level (take (count_to levels back) levels) ≡ word levels (count_to levels back - 1) =
        ap (word (take (count_to levels back) levels)) at
        ∙ word_take levels (count_to levels back) (count_to levels back - 1) (omega arith) in
        let high : word levels s.at ≤ word levels (count_to levels back - 1) =
        rising s.at (count_to levels back - 1) (omega arith) (omega arith) in
        let low : last_level (take (count_to levels back) levels) ≤ back = last_low in
        omega arith

  pub asserting : IsAsserting (steps_to lits levels back) (take (count_to levels back) levels) clause
  asserting = record {
    first = first;
    there = there;
    unit = b.unit first there;
    second = second_last;
    alone = λ one.
        (let z : back ≡ 0 = b.none (omega arith) in
        let low : last_level (take (count_to levels back) levels) ≤ back = last_low in omega arith);
  }
