-- What a search owes for each outcome, and what it logs.
use Rattle.std.specs.Prelude.{ℕ, ◌≡◌, ◌+◌, ◌<◌, ◌≤◌, Bool, true, false, List, [], ◌∷◌, ◌++◌, Option, Result, Ok, Err}
use Rattle.std.specs.List.{list_all, AllByRecursion}
use Rattle.mw_outside.specs.Taken.{Takes, TakesPart}
use Rattle.resolution_check.specs.declared.log.Clause.{Clause}
use Rattle.resolution_check.specs.declared.log.Entry.{Entry}
use Rattle.resolution_check.specs.declared.log.Entry.TheVariants.{Input, Add, Delete, End}
use Rattle.resolution_check.specs.Entries.{IsGood, adds_empty, addition_count}
use Rattle.resolution_check.specs.Earned.{AllEarned, IsSpaced, IsAscending}
use Rattle.resolution_check.specs.Text.{log_text, HasText}
use Rattle.cdcl_search.specs.declared.outcome.Outcome.{Outcome}
use Rattle.cdcl_search.specs.declared.outcome.Outcome.TheVariants.{Unsat, Sat, Unknown}
use Rattle.cdcl_search.specs.declared.outcome.SolveFault.{SolveFault}
use Rattle.cdcl_search.specs.declared.outcome.SolveFault.TheVariants.{LogFault, Memory}
use Rattle.cdcl_search.specs.Turns.{TellBumps}

-- ---- by the outcome

abbrev pub OnUnsat : Outcome → Type 0 → Type 0
OnUnsat Unsat P = P
OnUnsat (Sat values) P = Unit {0}
OnUnsat (Unknown added) P = Unit {0}

abbrev pub OnSat : Outcome → (List Bool → Type 0) → Type 0
OnSat Unsat P = Unit {0}
OnSat (Sat values) P = P values
OnSat (Unknown added) P = Unit {0}

abbrev pub OnUnknown : Outcome → (ℕ → Type 0) → Type 0
OnUnknown Unsat P = Unit {0}
OnUnknown (Sat values) P = Unit {0}
OnUnknown (Unknown added) P = P added

abbrev pub OnLogFault : {A : Type 0} → Result A SolveFault → Type 0 → Type 0
OnLogFault (Ok done) P = Unit {0}
OnLogFault (Err LogFault) P = P
OnLogFault (Err Memory) P = Unit {0}

abbrev pub UnlessLogFault : {A : Type 0} → Result A SolveFault → Type 0 → Type 0
UnlessLogFault (Ok done) P = P
UnlessLogFault (Err LogFault) P = Unit {0}
UnlessLogFault (Err Memory) P = P

-- ---- what is logged

-- the clauses as inputs, numbered upwards from the first number
abbrev pub input_entries : ℕ → List Clause → List Entry
input_entries id [] = []
input_entries id (c ∷ cs) = Input id c ∷ input_entries (id + 1) cs

abbrev pub adds_or_deletes : Entry → Bool
adds_or_deletes (Input id clause) = false
adds_or_deletes (Add id clause chain) = true
adds_or_deletes (Delete id) = true
adds_or_deletes End = false

-- the clauses as inputs, numbered from 1, and then additions and deletions; a good list, in which every addition is
-- earned, deletions are spaced, numbers go upwards, and each entry has a text
pub record IsSearchLog (clauses : List Clause) (es : List Entry) : Type 0 where
  pub learnt : List Entry
  pub order : es ≡ input_entries 1 clauses ++ learnt
  pub only : list_all adds_or_deletes learnt ≡ true
  pub good : IsGood es
  pub earned : AllEarned es
  pub spaced : IsSpaced es
  pub ascending : IsAscending es
  pub texts : AllByRecursion HasText es

-- which entries show the outcome, where so many additions were allowed: the empty clause is added; or none is empty,
-- and one more was allowed; or there are as many additions as were allowed, and none is empty
abbrev pub Shows : ℕ → List Entry → Outcome → Type 0
Shows budget es Unsat = (adds_empty es ≡ true) × (addition_count es ≤ budget)
Shows budget es (Sat values) = (adds_empty es ≡ false) × (addition_count es < budget)
Shows budget es (Unknown added) = (adds_empty es ≡ false) × (addition_count es ≡ budget)

-- between these two moments the whole log of a search for the clauses was written, it shows the outcome, and each
-- decider that tells its bumps tells the variables of the additions of its turns: all of it is said of one list of entries
pub record IsLogged (before now : Option (List ℕ)) (clauses : List Clause) (budget : ℕ)
    (tolds : List (Option (List ℕ))) (outcome : Outcome) : Type 0 where
  pub entries : List Entry
  pub log : IsSearchLog clauses entries
  pub shows : Shows budget entries outcome
  pub text : Takes before now (log_text entries)
  pub bumps : TellBumps tolds entries

-- between these two moments a front of the log of a search for the clauses was written, which has at most so many
-- additions
pub record IsCut (before now : Option (List ℕ)) (clauses : List Clause) (budget : ℕ) : Type 0 where
  pub entries : List Entry
  pub log : IsSearchLog clauses entries
  pub within : addition_count entries ≤ budget
  pub text : TakesPart before now (log_text entries)
