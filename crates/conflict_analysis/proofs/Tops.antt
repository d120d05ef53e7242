-- Which steps of the top level are marked, and which level that is.
use Rattle.std.proofs.Common.{◌≡◌, ℕ, ◌+◌, ◌<◌, ◌≤◌, Bool, true, false, not, List, length, slice_get, Option, Some}
use Rattle.std.proofs.Common.{inl, inr}
use Rattle.std.proofs.Common.{refl, sym, ◌∙◌, subst, arith}
use Rattle.std.proofs.lemmas.Bool.{cases_eq, cases_lt, false≢true}
use Rattle.std.proofs.lemmas.Option.{slice_get_within, get_or_from_slice_get}
use Rattle.mw_text.proofs.Lists.{item_there}
use Rattle.resolution_check.specs.declared.log.Lit.{Lit}
use Rattle.clause_arena.specs.declared.names.ClauseRef.{ClauseRef}
use Rattle.clause_arena.specs.Links.{word}
use Rattle.clause_arena.specs.Store.{Store}
use Rattle.conflict_analysis.specs.Steps.{NeverFalls, NoneMarked}
use Rattle.conflict_analysis.specs.Levels.{HasMarked, Stays, IsTop, is_implied}

pub none_more : (lits : List Lit) (levels : List ℕ) (marks : ℕ → Bool) (top at next high : ℕ) → next ≡ at + 1
    → NoneMarked lits levels marks top next high
    → ((l : Lit) → slice_get lits at ≡ Some l → marks l.var ≡ false) → NoneMarked lits levels marks top at high
none_more lits levels marks top at next high e n here = record {
  none = λ j l low h there up. elim (cases_eq j at) [
    | inl z ↦ here l (subst (λ (u : ℕ). slice_get lits u ≡ Some l) z there)
    | inr ne ↦ n.none j l (omega arith) h there up
  ];
}

-- a step of a lower level has no step of the top level before it
pub none_below : (lits : List Lit) (levels : List ℕ) (marks : ℕ → Bool) (top at next high level : ℕ)
    → NeverFalls levels → next ≡ at + 1 → slice_get levels at ≡ Some level → level < top
    → NoneMarked lits levels marks top next high
    → NoneMarked lits levels marks top 0 high
none_below lits levels marks top at next high level rising e is low n = record {
  none = λ j l z h there up. elim (cases_lt at j) [
    | inl later ↦ n.none j l (omega arith) h there up
    | inr before ↦ (let within : at < length levels = slice_get_within levels at level is in
        let a : word levels j ≤ word levels at = rising j at (omega arith) within in
        let v : word levels at ≡ level = get_or_from_slice_get levels at level 0 is in absurd (omega arith))
  ];
}

pub none_yet : (lits : List Lit) (levels : List ℕ) (marks : ℕ → Bool) (top high : ℕ)
    → NoneMarked lits levels marks top high high
none_yet lits levels marks top high = record { none = λ j l low h there up. absurd (omega arith) }

pub none_all : (lits : List Lit) (levels : List ℕ) (marks : ℕ → Bool) (top low high : ℕ) → low ≡ 0
    → NoneMarked lits levels marks top low high → NoneMarked lits levels marks top 0 high
none_all lits levels marks top low high e n = subst (λ (u : ℕ). NoneMarked lits levels marks top u high) e n

-- ---- whether a marked step is kept

pub kept_never : (a : Store) (lits : List Lit) (levels : List ℕ) (reasons : List (Option ClauseRef)) (marks : ℕ → Bool)
    (top at : ℕ) → slice_get levels at ≡ Some 0 → Stays a lits levels reasons marks top at false
kept_never a lits levels reasons marks top at is =
    let v : word levels at ≡ 0 = get_or_from_slice_get levels at 0 0 is in
    record {
      ground = λ z. refl;
      lower = λ h low. absurd (omega arith);
      last = λ h. absurd (false≢true h);
      another = λ e h. absurd (omega arith);
    }

pub kept_lower : (a : Store) (lits : List Lit) (levels : List ℕ) (reasons : List (Option ClauseRef)) (marks : ℕ → Bool)
    (top at level : ℕ) (kept : Bool) → slice_get levels at ≡ Some level → (level ≡ 0 → ⊥) → level < top
    → ((l : Lit) (r : Option ClauseRef) → slice_get lits at ≡ Some l → slice_get reasons at ≡ Some r
    → kept ≡ not (is_implied a marks l.var r)) → Stays a lits levels reasons marks top at kept
kept_lower a lits levels reasons marks top at level kept is above low same =
    let v : word levels at ≡ level = get_or_from_slice_get levels at level 0 is in
    record {
      ground = λ z. absurd (above (omega arith));
      lower = λ h less. same;
      last = λ h high. absurd (omega arith);
      another = λ e h high. absurd (omega arith);
    }

pub kept_last : (a : Store) (lits : List Lit) (levels : List ℕ) (reasons : List (Option ClauseRef)) (marks : ℕ → Bool)
    (top at level : ℕ) (kept : Bool) → slice_get levels at ≡ Some level → (level ≡ 0 → ⊥) → top ≤ level
    → (kept ≡ true → NoneMarked lits levels marks top 0 at) → (kept ≡ false → HasMarked lits levels marks top at)
    → Stays a lits levels reasons marks top at kept
kept_last a lits levels reasons marks top at level kept is above high last another =
    let v : word levels at ≡ level = get_or_from_slice_get levels at level 0 is in
    record {
      ground = λ z. absurd (above (omega arith));
      lower = λ h less. absurd (omega arith);
      last = λ h reached. last h;
      another = λ e h reached. another e;
    }

-- a marked step of the top level was found
pub found_marked : (lits : List Lit) (levels : List ℕ) (marks : ℕ → Bool) (top at high level : ℕ)
    → at < length lits → at < high → slice_get levels at ≡ Some level → top ≤ level
    → ((l : Lit) → slice_get lits at ≡ Some l → marks l.var ≡ true) → HasMarked lits levels marks top high
found_marked lits levels marks top at high level within before is reached here =
    let there = item_there lits at within in
    let v : word levels at ≡ level = get_or_from_slice_get levels at level 0 is in
    record {
      at = at;
      lit = there.0;
      before = before;
      there = there.1;
      reached = omega arith;
      is_marked = here there.0 there.1;
    }

-- ---- the top level

pub top_found : (lits : List Lit) (levels : List ℕ) (marks : ℕ → Bool) (at next level : ℕ) → NeverFalls levels
    → length levels ≡ length lits → next ≡ at + 1 → at < length lits → slice_get levels at ≡ Some level
    → NoneMarked lits levels marks 0 next (length lits)
    → ((l : Lit) → slice_get lits at ≡ Some l → marks l.var ≡ true) → IsTop lits levels marks level
top_found lits levels marks at next level rising len e within is n here =
    let v : word levels at ≡ level = get_or_from_slice_get levels at level 0 is in
    record {
      none_higher = λ j l there m. elim (cases_lt at j) [
        | inl later ↦ absurd (false≢true
            (sym (n.none j l (omega arith) (slice_get_within lits j l there) there (omega arith)) ∙ m))
        | inr before ↦
            let low : word levels j ≤ word levels at = rising j at before (omega arith) in omega arith
      ];
      reached = λ h. found_marked lits levels marks level at (length lits) level within within is (omega arith) here;
    }

pub top_none : (lits : List Lit) (levels : List ℕ) (marks : ℕ → Bool) (low : ℕ) → low ≡ 0
    → NoneMarked lits levels marks 0 low (length lits) → IsTop lits levels marks 0
top_none lits levels marks low e n = record {
  none_higher = λ j l there m. absurd (false≢true
      (sym (n.none j l (omega arith) (slice_get_within lits j l there) there (omega arith)) ∙ m));
  reached = λ h. absurd (omega arith);
}
