-- The first steps of a trail alone, up to a level.
use Rattle.std.proofs.Common.{◌+◌, ◌≡◌, ℕ, zero, suc, ◌-◌, ◌<◌, ◌≤◌, Bool, true, cond, leb, List, [], ◌∷◌}
use Rattle.std.proofs.Common.{length, length-take, min, take, slice_get, Option, Some, None, inl, inr, refl, sym, ap}
use Rattle.std.proofs.Common.{subst, ◌∙◌, arith, le-leb, leb-true}
use Rattle.std.specs.Prelude.{nat_lt}
use Rattle.std.specs.List.{list_all}
use Rattle.std.proofs.lemmas.Bool.{cases_Bool, cases_lt, and_parts, and_from}
use Rattle.std.proofs.lemmas.Option.{slice_get_within}
use Rattle.std.proofs.lemmas.List.{take-take, take_all, get_or-take}
use Rattle.resolution_check.specs.declared.log.Lit.{Lit}
use Rattle.resolution_check.specs.Trails.{value_of, holds}
use Rattle.clause_arena.specs.declared.names.ClauseRef.{ClauseRef}
use Rattle.clause_arena.specs.Links.{word}
use Rattle.clause_arena.specs.Store.{Store}
use Rattle.conflict_analysis.specs.Steps.{IsForcedBy, IsTrail, NeverFalls, OpensLevel}
use Rattle.conflict_analysis.specs.Levels.{count_to, steps_to}
use Rattle.conflict_analysis.proofs.Levels.{count_low, count_next}
use Rattle.watched_search.specs.Trails.{last_level}
use Rattle.watched_search.specs.Watches.{literal, AreWatched, IsKept}
use Rattle.watched_search.proofs.Places.{slice_get-take}
use Rattle.watched_search.proofs.Steps.{last_highest}

-- ---- how many steps there are up to a level

pub count_is : (levels : List ℕ) (level n : ℕ) → n ≤ length levels → ((j : ℕ) → j < n → word levels j ≤ level)
    → (n < length levels → level < word levels n) → n ≡ count_to levels level
count_is [] level n within low next = omega arith
count_is (m ∷ levels) level zero within low next =
    let high : level < m = next (omega arith) in
    elim (cases_Bool (leb m level)) [
      | inl is ↦ (let h : m ≤ level = leb-true m level is in absurd (omega arith))
      | inr past ↦ sym (ap (λ b. cond b (suc (count_to levels level)) 0) past)
    ]
count_is (m ∷ levels) level (suc n) within low next =
    let first : m ≤ level = low 0 (omega arith) in
    let rest : n ≡ count_to levels level =
    count_is levels level n (omega arith) (λ j less. low (suc j) (omega arith)) (λ less. next (omega arith)) in
    ap suc rest ∙ sym (ap (λ b. cond b (suc (count_to levels level)) 0) (le-leb m level first))

-- ---- the first steps alone

all_take : {X : Type 0} (p : X → Bool) (xs : List X) (n : ℕ) → list_all p xs ≡ true → list_all p (take n xs) ≡ true
all_take p xs zero all = refl
all_take p [] (suc n) all = refl
all_take p (x ∷ xs) (suc n) all =
    let both = and_parts (p x) (list_all p xs) all in and_from _ _ both.0 (all_take p xs n both.1)

pub slice_take : {X : Type 0} (xs : List X) (n i : ℕ) (x : X) → i < n → slice_get xs i ≡ Some x
    → slice_get (take n xs) i ≡ Some x
slice_take [] n i x low h = absurd (cc)
slice_take (z ∷ xs) zero i x low h = absurd (omega arith)
slice_take (z ∷ xs) (suc n) zero x low h = h
slice_take (z ∷ xs) (suc n) (suc i) x low h = slice_take xs n i x (omega arith) h

module _ (levels : List ℕ) (n : ℕ) where
  pub word_take : (j : ℕ) → j < n → word (take n levels) j ≡ word levels j
  word_take j low = get_or-take n levels j 0 low

  pub opens_whole : (at : ℕ) → at < n → OpensLevel (take n levels) at → OpensLevel levels at
  opens_whole at low o = record {
    above = subst (λ (k : ℕ). 0 < k) (word_take at low) o.above;
    first = λ j less.
        let front_j : word (take n levels) j ≡ word levels j = word_take j (omega arith) in
        let front_at : word (take n levels) at ≡ word levels at = word_take at low in
        let under : word (take n levels) j < word (take n levels) at = o.first j less in omega arith;
  }

  opens_cut : (at : ℕ) → at < n → OpensLevel levels at → OpensLevel (take n levels) at
  opens_cut at low o = record {
    above = subst (λ (k : ℕ). 0 < k) (sym (word_take at low)) o.above;
    first = λ j less.
        let front_j : word (take n levels) j ≡ word levels j = word_take j (omega arith) in
        let front_at : word (take n levels) at ≡ word levels at = word_take at low in
        let under : word levels j < word levels at = o.first j less in omega arith;
  }

module _ (a : Store) (vars : ℕ) (lits : List Lit) (levels : List ℕ) (reasons : List (Option ClauseRef)) (n : ℕ)
    (t : IsTrail a vars lits levels reasons) where
  pub trail_cut : IsTrail a vars (take n lits) (take n levels) (take n reasons)
  trail_cut =
      let short_lits : length (take n lits) ≡ min n (length lits) = length-take n lits in
      let short_levels : length (take n levels) ≡ min n (length levels) = length-take n levels in
      let short_reasons : length (take n reasons) ≡ min n (length reasons) = length-take n reasons in
      let level_count : length levels ≡ length lits = t.level_count in
      let reason_count : length reasons ≡ length lits = t.reason_count in
      record {
        level_count = omega arith;
        reason_count = omega arith;
        below = all_take (λ k. nat_lt k.var vars) lits n t.below;
        fresh = λ at l there.
            (let low : at < length (take n lits) = slice_get_within (take n lits) at l there in
            ap (λ ls. value_of ls l.var) (take-take at n lits (omega arith))
            ∙ t.fresh at l (slice_get-take n lits at l there));
        rising = λ j k low within.
            (let front_j : word (take n levels) j ≡ word levels j = word_take levels n j (omega arith) in
            let front_k : word (take n levels) k ≡ word levels k = word_take levels n k (omega arith) in
            let h : word levels j ≤ word levels k = t.rising j k low (omega arith) in omega arith);
        forced = λ at l c there is.
            (let low : at < length (take n lits) = slice_get_within (take n lits) at l there in
            subst (λ (ls : List Lit). IsForcedBy a ls l c) (sym (take-take at n lits (omega arith)))
            (t.forced at l c (slice_get-take n lits at l there) (slice_get-take n reasons at (Some c) is)));
        opens = λ at is.
            (let low : at < length (take n reasons) = slice_get_within (take n reasons) at None is in
            opens_cut levels n at (omega arith) (t.opens at (slice_get-take n reasons at None is)));
        chosen = λ at low o.
            slice_take reasons n at None (omega arith)
            (t.chosen at (omega arith) (opens_whole levels n at (omega arith) o));
      }

-- ---- watches that were kept before a step that opened a level

-- no more steps are counted than there are
pub count_within : (ns : List ℕ) (m : ℕ) → count_to ns m ≤ length ns
count_within [] m = omega arith
count_within (n ∷ ns) m =
    let rest : count_to ns m ≤ length ns = count_within ns m in
    elim (cases_Bool (leb n m)) [
      | inl is ↦ (let e : count_to (n ∷ ns) m ≡ suc (count_to ns m) =
          ap (λ b. cond b (suc (count_to ns m)) 0) is in omega arith)
      | inr past ↦ (let e : count_to (n ∷ ns) m ≡ 0 =
          ap (λ b. cond b (suc (count_to ns m)) 0) past in omega arith)
    ]

-- fewer levels are counted up to a lower one
count_more : (levels : List ℕ) (level : ℕ) → count_to levels 0 ≤ count_to levels level
count_more levels level = elim (cases_lt (count_to levels level) (count_to levels 0)) [
  | inr low ↦ low
  | inl less ↦
      let ground : word levels (count_to levels level) ≤ 0 =
      count_low levels 0 (count_to levels level) less in
      let within : count_to levels 0 ≤ length levels = count_within levels 0 in
      let above : level < word levels (count_to levels level) = count_next levels level (omega arith) in
      absurd (omega arith)
]

module _ (a : Store) (lits : List Lit) (levels : List ℕ) (level head : ℕ) (len : length levels ≡ length lits)
    (rising : NeverFalls levels) (k : IsKept a lits levels head) where
  abbrev pub n : ℕ
  n = count_to levels level

  -- the ground is the same
  same_ground : count_to (take n levels) 0 ≡ count_to levels 0
  same_ground =
      let low : count_to levels 0 ≤ n = count_more levels level in
      let short : length (take n levels) ≡ min n (length levels) = length-take n levels in
      sym (count_is (take n levels) 0 (count_to levels 0) (omega (arith, count_within levels 0))
      (λ j less. (let e : word (take n levels) j ≡ word levels j = word_take levels n j (omega arith) in
      let h : word levels j ≤ 0 = count_low levels 0 j less in omega arith))
      (λ less. (let e : word (take n levels) (count_to levels 0) ≡ word levels (count_to levels 0) =
      word_take levels n (count_to levels 0) (omega arith) in
      let h : 0 < word levels (count_to levels 0) = count_next levels 0 (omega arith) in omega arith)))

  -- the step behind the level opens one
  next_opens : n < length levels → OpensLevel levels n
  next_opens less =
      let next : level < word levels n = count_next levels level less in
      record {
        above = omega arith;
        first = λ j low. (let h : word levels j ≤ level = count_low levels level j low in omega arith);
      }

  -- where steps are taken back the watches are kept, and all that is left was looked at
  pub kept_back : n < length levels → IsKept a (steps_to lits levels level) (take n levels) n
  kept_back less = record {
    filled = k.filled;
    low = λ at within.
        (let short : length (take n levels) ≡ min n (length levels) = length-take n levels in
        let e : word (take n levels) at ≡ word levels at = word_take levels n at (omega arith) in
        let h : word levels at ≤ at + 1 = k.low at (omega arith) in omega arith);
    ones = λ r i one.
        subst (λ (ls : List Lit). holds ls (literal a r 0) ≡ true)
        (sym (ap (λ m. take m (take n lits)) same_ground
        ∙ take-take (count_to levels 0) n lits (count_more levels level))) (k.ones r i one);
    before = λ at low o.
        (let short : length (take n levels) ≡ min n (length levels) = length-take n levels in
        let e : take at (take n lits) ≡ take at lits = take-take at n lits (omega arith) in
        subst (λ (ls : List Lit). AreWatched a ls ls) (sym e)
        (k.before at (omega arith) (opens_whole levels n at (omega arith) o)));
    now = subst (λ (ls : List Lit). AreWatched a ls (take n lits)) (sym (take_all n (take n lits)
        (omega (arith, length-take n lits)))) (k.before n less (next_opens less));
  }

-- a level below the last one leaves steps behind it
pub some_behind : (levels : List ℕ) (level : ℕ) → level < last_level levels → count_to levels level < length levels
some_behind [] level low = absurd (omega arith)
some_behind (m ∷ ms) level low =
    elim (cases_lt (count_to (m ∷ ms) level) (length (m ∷ ms))) [
      | inl less ↦ less
      | inr all ↦
          let h : word (m ∷ ms) (length (m ∷ ms) - 1) ≤ level =
          count_low (m ∷ ms) level (length (m ∷ ms) - 1) (omega arith) in
          absurd (omega arith)
    ]

-- the last level that is left is no higher
pub last_taken : (levels : List ℕ) (level : ℕ) → last_level (take (count_to levels level) levels) ≤ level
last_taken levels level = by (count_to levels level) refl
  where
    by : (n : ℕ) → n ≡ count_to levels level → last_level (take n levels) ≤ level
    by zero e = omega arith
    by (suc n) e =
        let within : count_to levels level ≤ length levels = count_within levels level in
        let short : length (take (suc n) levels) ≡ min (suc n) (length levels) = length-take (suc n) levels in
        let at : length (take (suc n) levels) - 1 ≡ n = omega arith in
        let own : last_level (take (suc n) levels) ≡ word levels n =
        ap (word (take (suc n) levels)) at ∙ word_take levels (suc n) n (omega arith) in
        let low : word levels n ≤ level = count_low levels level n (omega arith) in omega arith

-- where the last level is 0 all steps are of levels up to 0
pub all_low : (lits : List Lit) (levels : List ℕ) → length levels ≡ length lits → NeverFalls levels
    → last_level levels ≡ 0 → steps_to lits levels 0 ≡ lits
all_low lits levels same rising last =
    let all : length levels ≡ count_to levels 0 =
    count_is levels 0 (length levels) (omega arith)
    (λ j less. (let h : word levels j ≤ last_level levels = last_highest levels j rising less in omega arith))
    (λ less. absurd (omega arith)) in
    take_all (count_to levels 0) lits (omega arith)
