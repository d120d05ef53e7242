-- Reductions: which learnt clauses may be deleted, and what their deletion leaves.
use Rattle.std.specs.Prelude.{ℕ, ◌≡◌, ◌⊎◌, ◌+◌, ◌*◌, ◌<◌, ◌≤◌, ◌^◌, true, false, List, Option, Some, slice_get}
use Rattle.resolution_check.specs.declared.log.Clause.{Clause}
use Rattle.resolution_check.specs.Earned.{ends_deleting, run_count}
use Rattle.clause_arena.specs.declared.names.ClauseRef.{ClauseRef}
use Rattle.clause_arena.specs.Store.{Store}
use Rattle.clause_arena.specs.Held.{IsHeld, held_in, number_of, size_of}
use Rattle.cdcl_search.specs.Outcomes.{IsCut}
use Rattle.cdcl_search.specs.Going.{IsGoing}

-- after so many runs of deletions another one may begin
abbrev pub IsDue : (next added runs : ℕ) → Type 0
IsDue next added runs = (1000 * (runs + 1) * (runs + 2) ≤ added) × (next ≤ 2 ^ 62)

-- no literal has this clause as its reason
abbrev pub IsNoReason : ClauseRef → List (Option ClauseRef) → Type 0
IsNoReason c reasons = (at : ℕ) → slice_get reasons at ≡ Some (Some c) → ⊥

-- a clause that is held, is no input, has more than two literals, and is no reason
pub record MayGo (a : Store) (reasons : List (Option ClauseRef)) (first : ℕ) (c : ClauseRef) : Type 0 where
  pub held : IsHeld a c
  pub learnt : first ≤ number_of a c
  pub long : 3 ≤ size_of a c
  pub no_reason : IsNoReason c reasons

-- the search goes on, and may log another deletion: the list ends in one, or a run may begin
pub record IsReducing (before now : Option (List ℕ)) (inputs : List Clause) (held : ℕ → Option Clause)
    (next added runs : ℕ) (tolds : List (Option (List ℕ))) : Type 0 where
  pub going : IsGoing before now inputs held next added (runs + 1) tolds
  pub due : 1000 * (runs + 1) * (runs + 2) ≤ added
  pub apart : (ends_deleting false going.entries ≡ true) ⊎ (run_count false going.entries ≤ runs)

-- clauses were deleted and logged so, and none of them is an input
pub record GoesDown (old new : Option (List ℕ)) (a b : Store) (first added : ℕ) : Type 0 where
  pub inputs : (id : ℕ) (c : Clause) → id < first → held_in a id ≡ Some c → held_in b id ≡ Some c
  pub going : (before : Option (List ℕ)) (ins : List Clause) (runs : ℕ) (tolds : List (Option (List ℕ)))
      → IsReducing before old ins (held_in a) (first + added) added runs tolds
      → IsReducing before new ins (held_in b) (first + added) added runs tolds

-- a front of this was logged
abbrev pub CutsDown : (old new : Option (List ℕ)) → Store → (first added : ℕ) → Type 0
CutsDown old new a first added =
    (before : Option (List ℕ)) (ins : List Clause) (runs : ℕ) (tolds : List (Option (List ℕ)))
    → IsReducing before old ins (held_in a) (first + added) added runs tolds → IsCut before new ins added

-- the same for a search that goes on, before it is known whether a run begins

abbrev pub GoesOnReduced : (old new : Option (List ℕ)) → (a b : Store) → (first added runs more : ℕ) → Type 0
GoesOnReduced old new a b first added runs more =
    (before : Option (List ℕ)) (ins : List Clause) (tolds : List (Option (List ℕ)))
    → IsGoing before old ins (held_in a) (first + added) added runs tolds
    → IsGoing before new ins (held_in b) (first + added) added more tolds

abbrev pub CutsReduced : (old new : Option (List ℕ)) → Store → (first added runs : ℕ) → Type 0
CutsReduced old new a first added runs =
    (before : Option (List ℕ)) (ins : List Clause) (tolds : List (Option (List ℕ)))
    → IsGoing before old ins (held_in a) (first + added) added runs tolds → IsCut before new ins added

-- what is held under numbers below this one stays
abbrev pub KeepsBelow : (first : ℕ) → (a b : Store) → Type 0
KeepsBelow first a b = (id : ℕ) (c : Clause) → id < first → held_in a id ≡ Some c → held_in b id ≡ Some c
