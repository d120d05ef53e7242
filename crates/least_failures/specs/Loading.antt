-- What comes of the words and of the files that they name, before anything is printed.
use Rattle.std.specs.Prelude.{◌≡◌, ℕ, ◌<◌, ◌≤◌, List, length, Option, Some, None, Result, Ok, Err}
use Rattle.log_trim.specs.Running.{NoReadFailed, Reads}
use Rattle.mw_load.specs.Loading.{StopsAt}
use Rattle.mw_outside.specs.Contents.{Contents}
use Rattle.mw_outside.specs.Faults.{Rose}
use Rattle.question_lang.specs.declared.reader.TheConstants.{MOST_QUESTIONS}
use Rattle.run_inputs.specs.declared.load.Loaded.{Loaded}
use Rattle.run_inputs.specs.declared.load.Stop.{Stop}
use Rattle.run_inputs.specs.declared.load.Stop.TheVariants as stop
use Rattle.run_inputs.specs.Due.{answering, refused}
use Rattle.run_inputs.specs.Loading.{IsBudget}
use Rattle.asked_files.specs.Words.{Asking}
use Rattle.least_failures.specs.Due.{IsDueBy, order_by}

-- a read of one of the files of these names failed; where the last failed name is told it is one of them, and where
-- contents are told those before it are there and small enough
abbrev pub IsUnread : Option Contents → List (List ℕ) → Reads → Type 0
IsUnread told names r =
    Rose r.faults r.faults_now × (0 < length names) × StopsAt told names r.last_now

-- the questions are few, and so are the clauses that a search may learn
abbrev pub IsReady : Loaded → Type 0
IsReady loaded = (length loaded.questions ≤ MOST_QUESTIONS) × IsBudget loaded.budget

-- what comes of what is asked for: nothing where nothing is; a network and questions about it; or where that stops
abbrev pub WorksBy : Option Contents → Option Asking → Reads → Result (Option Loaded) Stop → Type 0
WorksBy told asking r (Ok None) = NoReadFailed r × (asking ≡ None)
WorksBy told asking r (Ok (Some loaded)) =
    NoReadFailed r × IsDueBy told asking (answering loaded.net.files loaded.questions loaded.budget) × IsReady loaded
WorksBy told asking r (Err (stop.Refused line)) = NoReadFailed r × IsDueBy told asking (refused line)
WorksBy told asking r (Err stop.ReadFault) = IsUnread told (order_by asking) r
WorksBy told asking r (Err stop.Memory) = NoReadFailed r
