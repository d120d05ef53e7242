-- Decisions: a literal more that opens a level, and variables without a value.
use Rattle.std.proofs.Common.{◌≡◌, ℕ, ◌+◌, ◌-◌, ◌≤◌, List, [], ◌∷◌, ◌++◌, length, length-append, take}
use Rattle.std.proofs.Common.{inl, inr, sym, ap, subst, ◌∙◌, arith}
use Rattle.std.proofs.lemmas.Bool.{cases_lt}
use Rattle.std.proofs.lemmas.List.{take-append-le, take_all}
use Rattle.std.proofs.Math.Seq.{take-append_seam}
use Rattle.resolution_check.specs.declared.log.Lit.{Lit}
use Rattle.resolution_check.specs.Trails.{holds, fails}
use Rattle.clause_arena.specs.Store.{Store}
use Rattle.conflict_analysis.specs.Levels.{count_to}
use Rattle.watched_search.specs.Trails.{last_level}
use Rattle.watched_search.specs.Watches.{literal, AreWatched, IsKept}
use Rattle.watched_search.proofs.Back.{count_within}
use Rattle.watched_search.proofs.Settled.{holds_more}
use Rattle.watched_search.proofs.Steps.{last_small, low_push, opens_front}
use Rattle.watched_search.proofs.Visits.{count_push, holds_append}

-- the watches are kept where all steps were looked at, and before the decision they were so
pub kept_decided : (a : Store) (lits : List Lit) (levels : List ℕ) (l : Lit) (level : ℕ)
    → length levels ≡ length lits → level ≡ last_level levels + 1 → IsKept a lits levels (length lits)
    → IsKept a (lits ++ l ∷ []) (levels ++ level ∷ []) (length lits)
kept_decided a lits levels l level len next k =
    let whole : take (length lits) lits ≡ lits = take_all (length lits) lits (omega arith) in
    let now : AreWatched a lits lits = subst (λ (ls : List Lit). AreWatched a ls lits) whole k.now in
    record {
      filled = k.filled;
      ones = λ r i one.
          (let count : count_to levels 0 ≤ length levels = count_within levels 0 in
          holds_more (count_to levels 0) (count_to (levels ++ level ∷ []) 0) (lits ++ l ∷ []) (literal a r 0)
          (count_push levels level)
          (ap (λ ls. holds ls (literal a r 0)) (take-append-le (count_to levels 0) lits (l ∷ []) (omega arith))
          ∙ k.ones r i one));
      before = λ at low o.
          (let more : length (levels ++ level ∷ []) ≡ length levels + 1 = length-append levels (level ∷ []) in
          elim (cases_lt at (length levels)) [
            | inl front ↦ subst (λ (ls : List Lit). AreWatched a ls ls)
                (sym (take-append-le at lits (l ∷ []) (omega arith)))
                (k.before at front (opens_front levels level at front o))
            | inr last ↦
                let e : at ≡ length lits = omega arith in
                subst (λ (ls : List Lit). AreWatched a ls ls)
                (sym (ap (λ n. take n (lits ++ l ∷ [])) e ∙ take-append_seam lits (l ∷ []))) now
          ]);
      low = low_push levels level k.low
          (let h : last_level levels ≤ length levels = last_small levels k.low in omega arith);
      now = λ r side i two low falls.
          holds_append lits (l ∷ []) (literal a r (1 - side))
          (now r side i two low (ap (λ ls. fails ls (literal a r side)) (sym (take-append_seam lits (l ∷ [])))
          ∙ falls));
    }
