-- What a search has logged while it goes on, and what it keeps.
use Rattle.std.specs.Prelude.{ℕ, ◌≡◌, ◌+◌, ◌^◌, ◌<◌, ◌≤◌, true, false, List, length, Option, None}
use Rattle.std.specs.List.{list_any}
use Rattle.mw_outside.specs.Taken.{Takes}
use Rattle.resolution_check.specs.declared.log.Clause.{Clause}
use Rattle.resolution_check.specs.declared.log.Entry.{Entry}
use Rattle.resolution_check.specs.Entries.{adds_empty, addition_count, clause_held, has_ended}
use Rattle.resolution_check.specs.Earned.{IsAbove, gives_input, run_count}
use Rattle.resolution_check.specs.Text.{log_text}
use Rattle.clause_arena.specs.Store.{Store}
use Rattle.clause_arena.specs.Held.{clauses, held_in}
use Rattle.conflict_analysis.specs.Steps.{IsTrail}
use Rattle.watched_search.specs.Sets.{AreSameSets}
use Rattle.watched_search.specs.Starts.{AreBelow}
use Rattle.watched_search.specs.Trails.{Assigned}
use Rattle.watched_search.specs.Watches.{IsKept}
use Rattle.cdcl_search.specs.Outcomes.{IsSearchLog, IsCut}
use Rattle.cdcl_search.specs.Turns.{IsTurn, TellBumps}

-- between these two moments the log of a search for the inputs was written so far: it holds exactly these clauses, each
-- up to the order of its literals, the numbers given are below the next one, those of inputs by more than there are
-- additions, it has so many additions, none empty, and at most so many runs of deletions, and deciders tell the bumps
-- of these additions
pub record IsGoing (before now : Option (List ℕ)) (inputs : List Clause) (held : ℕ → Option Clause)
    (next added runs : ℕ) (tolds : List (Option (List ℕ))) : Type 0 where
  pub entries : List Entry
  pub log : IsSearchLog inputs entries
  pub text : Takes before now (log_text entries)
  pub same : AreSameSets held (clause_held entries)
  pub not_ended : has_ended entries ≡ false
  pub above : IsAbove entries next
  pub low_inputs : (id : ℕ) → list_any (gives_input id) entries ≡ true → id + added < next
  pub few_runs : run_count false entries ≤ runs
  pub count : addition_count entries ≡ added
  pub not_empty : adds_empty entries ≡ false
  pub bumps : TellBumps tolds entries

-- the log was written to its end, has so many additions, and the last adds the empty clause
pub record IsRefuted (before now : Option (List ℕ)) (inputs : List Clause) (added : ℕ)
    (tolds : List (Option (List ℕ))) : Type 0 where
  pub entries : List Entry
  pub log : IsSearchLog inputs entries
  pub text : Takes before now (log_text entries)
  pub count : addition_count entries ≡ added
  pub empty : adds_empty entries ≡ true
  pub bumps : TellBumps tolds entries

-- ---- from one moment to a later one

-- an addition under the next number was logged, and the decider was told of it whose turn it was

abbrev pub GoesOn : (old new : Option (List ℕ)) → (tolds more_tolds : List (Option (List ℕ)))
    → (held more : ℕ → Option Clause) → (next turn : ℕ) → Type 0
GoesOn old new tolds more_tolds held more next turn =
    (before : Option (List ℕ)) (ins : List Clause) (added runs : ℕ) → IsTurn (length tolds) added turn
    → IsGoing before old ins held next added runs tolds
    → IsGoing before new ins more (next + 1) (added + 1) runs more_tolds

abbrev pub Refutes : (old new : Option (List ℕ)) → (tolds more_tolds : List (Option (List ℕ)))
    → (held : ℕ → Option Clause) → (next turn : ℕ) → Type 0
Refutes old new tolds more_tolds held next turn =
    (before : Option (List ℕ)) (ins : List Clause) (added runs : ℕ) → IsTurn (length tolds) added turn
    → IsGoing before old ins held next added runs tolds → IsRefuted before new ins (added + 1) more_tolds

abbrev pub Cuts : (old new : Option (List ℕ)) → (tolds : List (Option (List ℕ))) → (held : ℕ → Option Clause)
    → (next : ℕ) → Type 0
Cuts old new tolds held next =
    (before : Option (List ℕ)) (ins : List Clause) (added runs : ℕ) → IsGoing before old ins held next added runs tolds
    → IsCut before new ins (added + 1)

-- ---- what a search keeps from one addition to the next

-- The trail follows from the clauses held, and the watches are kept for the steps before a place. The clauses have
-- numbers from 1 to below the next one, and deletions stopped before numbers grew large.
pub record IsReady (a : Store) (now : Assigned) (next from : ℕ) : Type 0 where
  pub vars : now.vars ≡ a.vars
  pub trail : IsTrail a now.vars now.lits now.levels now.reasons
  pub kept : IsKept a now.lits now.levels from
  pub within : from ≤ length now.lits
  pub below : AreBelow a next
  pub above : held_in a 0 ≡ None
  pub some : 1 ≤ next
  pub number : next ≤ length (clauses a) + 2 ^ 62
  pub few : next ≤ 2 ^ 63
