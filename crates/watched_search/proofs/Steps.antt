-- Trails by levels and reasons: one step more, and the first steps alone.
use Rattle.std.proofs.Common.{◌≡◌, ℕ, zero, suc, ◌+◌, ◌-◌, ◌<◌, ◌≤◌, List, [], ◌∷◌, ◌++◌, length}
use Rattle.std.proofs.Common.{length-append, take, slice_get, Option, Some, None, inl, inr, refl, sym}
use Rattle.std.proofs.Common.{ap, subst, ◌∙◌, arith}
use Rattle.std.specs.Prelude.{nat_lt}
use Rattle.std.proofs.lemmas.Bool.{cases_lt, lt-ltb}
use Rattle.std.proofs.lemmas.Option.{slice_get_within, get_or_from_slice_get, same_Some}
use Rattle.std.proofs.lemmas.List.{take-append-le, get_or_append_left}
use Rattle.std.proofs.Math.Seq.{take-append_seam}
use Rattle.resolution_check.specs.declared.log.Lit.{Lit}
use Rattle.resolution_check.specs.Trails.{value_of}
use Rattle.clause_arena.specs.declared.names.ClauseRef.{ClauseRef}
use Rattle.clause_arena.specs.Links.{word}
use Rattle.clause_arena.specs.Store.{Store}
use Rattle.conflict_analysis.specs.Steps.{IsForcedBy, IsTrail, NeverFalls, OpensLevel}
use Rattle.watched_search.specs.Trails.{last_level, MayFollow}
use Rattle.mw_text.proofs.Lists.{item_before}
use Rattle.watched_search.proofs.Places.{slice_get-seam, all_push}
use Rattle.watched_search.proofs.Trails.{fresh_push}

-- an item of the first ones
pub slice_get-back : {X : Type 0} (xs ys : List X) (i : ℕ) (x : X) → i < length xs → slice_get (xs ++ ys) i ≡ Some x
    → slice_get xs i ≡ Some x
slice_get-back [] ys i x low h = absurd (omega arith)
slice_get-back (z ∷ xs) ys zero x low h = h
slice_get-back (z ∷ xs) ys (suc i) x low h = slice_get-back xs ys i x (omega arith) h

-- the item put last
last_item : {X : Type 0} (xs : List X) (x y : X) (i : ℕ) → length xs ≤ i → slice_get (xs ++ x ∷ []) i ≡ Some y
    → (i ≡ length xs) × (y ≡ x)
last_item xs x y i past h =
    let within : i < length (xs ++ x ∷ []) = slice_get_within (xs ++ x ∷ []) i y h in
    let more : length (xs ++ x ∷ []) ≡ length xs + 1 = length-append xs (x ∷ []) in
    let e : i ≡ length xs = omega arith in
    (e, same_Some y x (sym h ∙ ap (slice_get (xs ++ x ∷ [])) e ∙ slice_get-seam xs x []))

word_front : (levels : List ℕ) (n j : ℕ) → j < length levels → word (levels ++ n ∷ []) j ≡ word levels j
word_front levels n j low = get_or_append_left levels (n ∷ []) 0 j low

pub word_last : (levels : List ℕ) (n : ℕ) → word (levels ++ n ∷ []) (length levels) ≡ n
word_last levels n =
    get_or_from_slice_get (levels ++ n ∷ []) (length levels) n 0 (slice_get-seam levels n [])

-- no level is above the last one
pub last_highest : (levels : List ℕ) (j : ℕ) → NeverFalls levels → j < length levels
    → word levels j ≤ last_level levels
last_highest levels j rising low = rising j (length levels - 1) (omega arith) (omega arith)

-- the last level is no higher than there are steps
pub last_small : (levels : List ℕ) → ((at : ℕ) → at < length levels → word levels at ≤ at + 1)
    → last_level levels ≤ length levels
last_small [] low = omega arith
last_small (m ∷ ms) low =
    let h : word (m ∷ ms) (length (m ∷ ms) - 1) ≤ length (m ∷ ms) - 1 + 1 =
    low (length (m ∷ ms) - 1) (omega arith) in omega arith

pub low_push : (levels : List ℕ) (n : ℕ) → ((at : ℕ) → at < length levels → word levels at ≤ at + 1)
    → n ≤ length levels + 1 → (at : ℕ) → at < length (levels ++ n ∷ []) → word (levels ++ n ∷ []) at ≤ at + 1
low_push levels n low small at within = elim (cases_lt at (length levels)) [
  | inl front ↦
      let e : word (levels ++ n ∷ []) at ≡ word levels at = word_front levels n at front in
      let h : word levels at ≤ at + 1 = low at front in omega arith
  | inr last ↦
      let more : length (levels ++ n ∷ []) ≡ length levels + 1 = length-append levels (n ∷ []) in
      let e : at ≡ length levels = omega arith in
      let own : word (levels ++ n ∷ []) at ≡ n = ap (word (levels ++ n ∷ [])) e ∙ word_last levels n in omega arith
]

-- ---- one step more

module _ (levels : List ℕ) (n : ℕ) where
  pub opens_front : (j : ℕ) → j < length levels → OpensLevel (levels ++ n ∷ []) j → OpensLevel levels j
  opens_front j low o = record {
    above = subst (λ (k : ℕ). 0 < k) (word_front levels n j low) o.above;
    first = λ i less.
        let front_i : word (levels ++ n ∷ []) i ≡ word levels i = word_front levels n i (omega arith) in
        let front_j : word (levels ++ n ∷ []) j ≡ word levels j = word_front levels n j low in
        let under : word (levels ++ n ∷ []) i < word (levels ++ n ∷ []) j = o.first i less in omega arith;
  }

  opens_still : (j : ℕ) → j < length levels → OpensLevel levels j → OpensLevel (levels ++ n ∷ []) j
  opens_still j low o = record {
    above = subst (λ (k : ℕ). 0 < k) (sym (word_front levels n j low)) o.above;
    first = λ i less.
        let front_i : word (levels ++ n ∷ []) i ≡ word levels i = word_front levels n i (omega arith) in
        let front_j : word (levels ++ n ∷ []) j ≡ word levels j = word_front levels n j low in
        let under : word levels i < word levels j = o.first i less in omega arith;
  }

  pub rising_push : NeverFalls levels → last_level levels ≤ n → NeverFalls (levels ++ n ∷ [])
  rising_push rising high j k low within = elim (cases_lt k (length levels)) [
    | inl front ↦
        let front_j : word (levels ++ n ∷ []) j ≡ word levels j = word_front levels n j (omega arith) in
        let front_k : word (levels ++ n ∷ []) k ≡ word levels k = word_front levels n k front in
        let h : word levels j ≤ word levels k = rising j k low front in omega arith
    | inr last ↦
        let more : length (levels ++ n ∷ []) ≡ length levels + 1 = length-append levels (n ∷ []) in
        let e : k ≡ length levels = omega arith in
        let own : word (levels ++ n ∷ []) k ≡ n = ap (word (levels ++ n ∷ [])) e ∙ word_last levels n in
        elim (cases_lt j (length levels)) [
          | inl front ↦
              let front_j : word (levels ++ n ∷ []) j ≡ word levels j = word_front levels n j front in
              let h : word levels j ≤ last_level levels = last_highest levels j rising front in omega arith
          | inr same ↦
              let f : j ≡ k = omega arith in
              let g : word (levels ++ n ∷ []) j ≡ word (levels ++ n ∷ []) k = ap (word (levels ++ n ∷ [])) f in
              omega arith
        ]
  ]

  -- a level above all others is opened
  opens_last : NeverFalls levels → last_level levels < n → OpensLevel (levels ++ n ∷ []) (length levels)
  opens_last rising high = record {
    above = (let own : word (levels ++ n ∷ []) (length levels) ≡ n = word_last levels n in omega arith);
    first = λ j low.
        let own : word (levels ++ n ∷ []) (length levels) ≡ n = word_last levels n in
        let front_j : word (levels ++ n ∷ []) j ≡ word levels j = word_front levels n j low in
        let h : word levels j ≤ last_level levels = last_highest levels j rising low in omega arith;
  }

  -- the last level is not opened again
  pub no_opening : n ≡ last_level levels → OpensLevel (levels ++ n ∷ []) (length levels) → ⊥
  no_opening same o =
      let own : word (levels ++ n ∷ []) (length levels) ≡ n = word_last levels n in
      let above : 0 < word (levels ++ n ∷ []) (length levels) = o.above in
      elim (cases_lt 0 (length levels)) [
        | inl some ↦
            let front : word (levels ++ n ∷ []) (length levels - 1) ≡ word levels (length levels - 1) =
            word_front levels n (length levels - 1) (omega arith) in
            let under : word (levels ++ n ∷ []) (length levels - 1) < word (levels ++ n ∷ []) (length levels) =
            o.first (length levels - 1) (omega arith) in absurd (omega arith)
        | inr none ↦
            let z : last_level levels ≡ 0 = no_levels levels none in absurd (omega arith)
      ]
    where
      no_levels : (ns : List ℕ) → length ns ≤ 0 → last_level ns ≡ 0
      no_levels [] h = refl
      no_levels (m ∷ ns) h = absurd (omega arith)

module _ (a : Store) (vars : ℕ) (lits : List Lit) (levels : List ℕ) (reasons : List (Option ClauseRef))
    (t : IsTrail a vars lits levels reasons) (l : Lit) (level : ℕ) (reason : Option ClauseRef) (within : l.var < vars)
    (free : value_of lits l.var ≡ None) (may : MayFollow a lits levels l level reason) where
  high : last_level levels ≤ level
  high = elim may [
    | inl chosen ↦ let h : last_level levels < level = chosen.higher in omega arith
    | inr forced ↦ let h : level ≡ last_level levels = forced.same_level in omega arith
  ]

  forced_last : (c : ClauseRef) → reason ≡ Some c → IsForcedBy a lits l c
  forced_last c is = elim may [
    | inl chosen ↦ (let e : None ≡ Some c = sym chosen.none ∙ is in absurd (cc))
    | inr forced ↦
        let e : forced.clause ≡ c = same_Some forced.clause c (sym forced.is ∙ is) in
        subst (IsForcedBy a lits l) e forced.forced
  ]

  opens_own : reason ≡ None → OpensLevel (levels ++ level ∷ []) (length levels)
  opens_own none = elim may [
    | inl chosen ↦ opens_last levels level t.rising chosen.higher
    | inr forced ↦ (let e : None ≡ Some forced.clause = sym none ∙ forced.is in absurd (cc))
  ]

  chosen_own : OpensLevel (levels ++ level ∷ []) (length levels) → reason ≡ None
  chosen_own o = elim may [
    | inl chosen ↦ chosen.none
    | inr forced ↦ absurd (no_opening levels level forced.same_level o)
  ]

  pub trail_push : IsTrail a vars (lits ++ l ∷ []) (levels ++ level ∷ []) (reasons ++ reason ∷ [])
  trail_push =
      let more : length (lits ++ l ∷ []) ≡ length lits + 1 = length-append lits (l ∷ []) in
      let more_levels : length (levels ++ level ∷ []) ≡ length levels + 1 = length-append levels (level ∷ []) in
      let more_reasons : length (reasons ++ reason ∷ []) ≡ length reasons + 1 =
      length-append reasons (reason ∷ []) in
      let level_count : length levels ≡ length lits = t.level_count in
      let reason_count : length reasons ≡ length lits = t.reason_count in
      record {
        level_count = omega arith;
        reason_count = omega arith;
        below = all_push (λ k. nat_lt k.var vars) lits l t.below (lt-ltb l.var vars within);
        fresh = fresh_push lits l free t.fresh;
        rising = rising_push levels level t.rising high;
        forced = λ at k c there is. elim (cases_lt at (length lits)) [
          | inl front ↦
              subst (λ (ls : List Lit). IsForcedBy a ls k c)
              (sym (take-append-le at lits (l ∷ []) (omega arith)))
              (t.forced at k c (slice_get-back lits (l ∷ []) at k front there)
              (slice_get-back reasons (reason ∷ []) at (Some c) (omega arith) is))
          | inr past ↦
              let own = last_item lits l k at past there in
              let why = last_item reasons reason (Some c) at (omega arith) is in
              subst (λ (ls : List Lit). IsForcedBy a ls k c)
              (sym (ap (λ n. take n (lits ++ l ∷ [])) own.0 ∙ take-append_seam lits (l ∷ [])))
              (subst (λ (m : Lit). IsForcedBy a lits m c) (sym own.1) (forced_last c (sym why.1)))
        ];
        opens = λ at is. elim (cases_lt at (length reasons)) [
          | inl front ↦ opens_still levels level at (omega arith)
              (t.opens at (slice_get-back reasons (reason ∷ []) at None front is))
          | inr past ↦
              let why = last_item reasons reason None at past is in
              let e : at ≡ length reasons = why.0 in
              let same : length levels ≡ at = omega arith in
              subst (OpensLevel (levels ++ level ∷ [])) same (opens_own (sym why.1))
        ];
        chosen = λ at low o. elim (cases_lt at (length lits)) [
          | inl front ↦ (let is : slice_get reasons at ≡ Some None =
              t.chosen at front (opens_front levels level at (omega arith) o) in
              item_before reasons (reason ∷ []) at None is)
          | inr past ↦
              let e : at ≡ length levels = omega arith in
              let none : reason ≡ None = chosen_own (subst (OpensLevel (levels ++ level ∷ [])) e o) in
              let f : at ≡ length reasons = omega arith in
              ap (slice_get (reasons ++ reason ∷ [])) f ∙ slice_get-seam reasons reason [] ∙ ap Some none
        ];
      }
