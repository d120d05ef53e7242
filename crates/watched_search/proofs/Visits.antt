-- Visits of watches: which literals of a clause are false, and one literal that is forced.
use Rattle.std.proofs.Common.{◌≡◌, ◌⊎◌, ℕ, zero, suc, ◌+◌, ◌-◌, ◌*◌, ◌<◌, ◌≤◌, Bool, true, false, not, leb, cond}
use Rattle.std.proofs.Common.{List, [], ◌∷◌, ◌++◌, length, length-append, slice_get, Option, Some, None, inl, inr}
use Rattle.std.proofs.Common.{refl, sym, ap, subst, ◌∙◌, arith}
use Rattle.std.specs.Option.{option_or}
use Rattle.std.proofs.lemmas.Bool.{cases_Bool, cases_lt, false≢true, or_cases}
use Rattle.std.proofs.lemmas.Option.{slice_get_within, same_Some}
use Rattle.std.proofs.lemmas.List.{take-append-le}
use Rattle.resolution_check.specs.declared.log.Lit.{Lit}
use Rattle.resolution_check.specs.Clauses.{has}
use Rattle.resolution_check.specs.Trails.{value_of, is_value, holds, fails, AllFail, IsUnit}
use Rattle.resolution_check.proofs.Literals.{same_lit}
use Rattle.resolution_check.proofs.Values.{value_of-append, value_of-last}
use Rattle.resolution_check.proofs.Variables.{itself}
use Rattle.clause_arena.specs.Links.{word}
use Rattle.mw_text.specs.Members.{In}
use Rattle.clause_arena.specs.Store.{Store, IsSound}
use Rattle.clause_arena.specs.Held.{lits_of}
use Rattle.clause_arena.proofs.Views.{lits_listed, lits_count}
use Rattle.conflict_analysis.specs.Steps.{OpensLevel}
use Rattle.conflict_analysis.specs.Levels.{count_to}
use Rattle.conflict_analysis.proofs.Marked.{has_at}
use Rattle.watched_search.specs.Trails.{last_level}
use Rattle.watched_search.specs.Watches.{literal, AreWatched, IsKept, IsReplacement}
use Rattle.watched_search.proofs.Back.{count_within}
use Rattle.watched_search.proofs.Settled.{holds_more, free_of}
use Rattle.watched_search.proofs.Steps.{last_small, low_push, opens_front, no_opening}

-- ---- the literals of a clause by their places

place_of : (c : List Lit) (l : Lit) → has c l ≡ true → (j : ℕ) × (slice_get c j ≡ Some l)
place_of [] l h = absurd (false≢true h)
place_of (k ∷ c) l h = elim (or_cases _ _ h) [
  | inl here ↦ (zero, ap Some (sym (same_lit l k here)))
  | inr later ↦ let found = place_of c l later in (suc found.0, found.1)
]

module _ (a : Store) (sound : IsSound a.vars a.words a.refs) (r : ℕ) (i : In r a.refs) where
  pub literal_at : (l : Lit) → has (lits_of a r) l ≡ true → (j : ℕ) × (j < word a.words r) × (literal a r j ≡ l)
  literal_at l h =
      let found = place_of (lits_of a r) l h in
      let count : length (lits_of a r) ≡ word a.words r = lits_count a.vars a.words a.refs r sound i in
      let within : found.0 < length (lits_of a r) = slice_get_within (lits_of a r) found.0 l found.1 in
      let low : found.0 < word a.words r = omega arith in
      let is : slice_get (lits_of a r) found.0 ≡ Some (literal a r found.0) =
      lits_listed a.vars a.words a.refs r found.0 (word a.words (r + 4 + found.0)) sound i low refl in
      (found.0, low, same_Some (literal a r found.0) l (sym is ∙ found.1))

  pub literal_in : (k : ℕ) → k < word a.words r → has (lits_of a r) (literal a r k) ≡ true
  literal_in k low =
      has_at (lits_of a r) k (literal a r k)
      (lits_listed a.vars a.words a.refs r k (word a.words (r + 4 + k)) sound i low refl)

  -- the variable of a literal is one of the arena's
  pub literal_below : (k : ℕ) → k < word a.words r → (literal a r k).var < a.vars
  literal_below k low =
      let h : word a.words (r + 4 + k) < 2 * a.vars = sound.laid.below r k i low in omega arith

  module _ (steps : List Lit) (side : ℕ) (low : side < 2) (two : 2 ≤ word a.words r)
      (own : fails steps (literal a r side) ≡ true) (rest : IsReplacement a steps r None) where
    -- a literal at any place but the other side's is false
    others_fail : (j : ℕ) → j < word a.words r → (j ≡ 1 - side) ⊎ (fails steps (literal a r j) ≡ true)
    others_fail j within = elim (cases_lt j 2) [
      | inr high ↦ inr (rest j high within)
      | inl small ↦ elim (cases_lt j side) [
        | inl under ↦ inl (omega arith)
        | inr over ↦ elim (cases_lt side j) [
          | inl above ↦ inl (omega arith)
          | inr same ↦ (let e : side ≡ j = omega arith in
              inr (subst (λ (k : ℕ). fails steps (literal a r k) ≡ true) e own))
        ]
      ]
    ]

    pub all_fail : fails steps (literal a r (1 - side)) ≡ true → AllFail steps (lits_of a r)
    all_fail other l h =
        let at = literal_at l h in
        subst (λ (k : Lit). fails steps k ≡ true) at.2 (elim (others_fail at.0 at.1) [
          | inl e ↦ subst (λ (k : ℕ). fails steps (literal a r k) ≡ true) (sym e) other
          | inr falls ↦ falls
        ])

    pub unit : fails steps (literal a r (1 - side)) ≡ false → holds steps (literal a r (1 - side)) ≡ false
        → IsUnit steps (lits_of a r) (literal a r (1 - side))
    unit not_false not_true = record {
      inside = literal_in (1 - side) (omega arith);
      free = free_of steps (literal a r (1 - side)) not_false not_true;
      others = λ l h.
          (let at = literal_at l h in
          elim (others_fail at.0 at.1) [
            | inl e ↦ inl (sym at.2 ∙ ap (literal a r) e)
            | inr falls ↦ inr (subst (λ (k : Lit). fails steps k ≡ true) at.2 falls)
          ]);
    }

-- ---- replacements one place after another

pub rest_none : (a : Store) (steps : List Lit) (r : ℕ) → (k : ℕ) → 2 ≤ k → k < 2 → k < word a.words r
    → fails steps (literal a r k) ≡ true
rest_none a steps r k high low within = absurd (omega arith)

pub rest_more : (a : Store) (steps : List Lit) (r at : ℕ)
    → ((k : ℕ) → 2 ≤ k → k < at → k < word a.words r → fails steps (literal a r k) ≡ true)
    → fails steps (literal a r at) ≡ true
    → (k : ℕ) → 2 ≤ k → k < at + 1 → k < word a.words r → fails steps (literal a r k) ≡ true
rest_more a steps r at before here k high low within = elim (cases_lt k at) [
  | inl less ↦ before k high less within
  | inr last ↦ (let e : at ≡ k = omega arith in subst (λ (j : ℕ). fails steps (literal a r j) ≡ true) e here)
]

-- ---- one literal more at the last level

pub holds_append : (ls ms : List Lit) (l : Lit) → holds ls l ≡ true → holds (ls ++ ms) l ≡ true
holds_append ls ms l h = by (value_of ls l.var) refl h
  where
    by : (o : Option Bool) → value_of ls l.var ≡ o → is_value o (not l.negated) ≡ true → holds (ls ++ ms) l ≡ true
    by None e g = absurd (false≢true g)
    by (Some b) e g =
        ap (λ o. is_value o (not l.negated))
        (value_of-append ls ms l.var ∙ ap (λ o. option_or o (value_of ms l.var)) e) ∙ g

pub holds_last : (ls : List Lit) (l : Lit) → value_of ls l.var ≡ None → holds (ls ++ l ∷ []) l ≡ true
holds_last ls l free = ap (λ o. is_value o (not l.negated)) (value_of-last ls l free) ∙ itself (not l.negated)

pub count_push : (levels : List ℕ) (n : ℕ) → count_to levels 0 ≤ count_to (levels ++ n ∷ []) 0
count_push [] n = omega arith
count_push (m ∷ levels) n = elim (cases_Bool (leb m 0)) [
  | inl is ↦
      let rest : count_to levels 0 ≤ count_to (levels ++ n ∷ []) 0 = count_push levels n in
      let e : count_to (m ∷ levels) 0 ≡ suc (count_to levels 0) =
      ap (λ b. cond b (suc (count_to levels 0)) 0) is in
      let f : count_to (m ∷ (levels ++ n ∷ [])) 0 ≡ suc (count_to (levels ++ n ∷ []) 0) =
      ap (λ b. cond b (suc (count_to (levels ++ n ∷ []) 0)) 0) is in omega arith
  | inr past ↦
      let e : count_to (m ∷ levels) 0 ≡ 0 = ap (λ b. cond b (suc (count_to levels 0)) 0) past in omega arith
]

pub kept_push : (a : Store) (lits : List Lit) (levels : List ℕ) (head : ℕ) (l : Lit) (level : ℕ)
    → length levels ≡ length lits → head ≤ length lits → level ≡ last_level levels → IsKept a lits levels head
    → IsKept a (lits ++ l ∷ []) (levels ++ level ∷ []) head
kept_push a lits levels head l level len within same k = record {
  filled = k.filled;
  ones = λ r i one.
      (let count : count_to levels 0 ≤ length levels = count_within levels 0 in
      holds_more (count_to levels 0) (count_to (levels ++ level ∷ []) 0) (lits ++ l ∷ []) (literal a r 0)
      (count_push levels level)
      (ap (λ ls. holds ls (literal a r 0)) (take-append-le (count_to levels 0) lits (l ∷ []) (omega arith))
      ∙ k.ones r i one));
  before = λ at low o.
      (let more : length (levels ++ level ∷ []) ≡ length levels + 1 = length-append levels (level ∷ []) in
      elim (cases_lt at (length levels)) [
        | inl front ↦ subst (λ (ls : List Lit). AreWatched a ls ls)
            (sym (take-append-le at lits (l ∷ []) (omega arith)))
            (k.before at front (opens_front levels level at front o))
        | inr last ↦
            let e : at ≡ length levels = omega arith in
            absurd (no_opening levels level same (subst (OpensLevel (levels ++ level ∷ [])) e o))
      ]);
  low = low_push levels level k.low
      (let h : last_level levels ≤ length levels = last_small levels k.low in omega arith);
  now = λ r side i two low falls.
      holds_append lits (l ∷ []) (literal a r (1 - side))
      (k.now r side i two low
      (ap (λ ls. fails ls (literal a r side)) (sym (take-append-le head lits (l ∷ []) within)) ∙ falls));
}
