-- What comes of the words and of the files that they name, before anything is printed.
use Rattle.std.specs.Prelude.{◌≡◌, ◌≤◌, length, Option, Some, None, Result, Ok, Err}
use Rattle.log_trim.specs.Running.{NoReadFailed, Reads}
use Rattle.mw_load.specs.Loading.{StopsAt}
use Rattle.mw_outside.specs.Contents.{Contents}
use Rattle.mw_outside.specs.Faults.{Rose}
use Rattle.run_inputs.specs.declared.load.Stop.{Stop}
use Rattle.run_inputs.specs.declared.load.Stop.TheVariants as stop
use Rattle.run_inputs.specs.Due.{refused}
use Rattle.run_inputs.specs.Loading.{IsBudget}
use Rattle.export_asks.specs.declared.reader.TheConstants.{MOST_ASKS}
use Rattle.asked_files.specs.Network.{in_order}
use Rattle.asked_files.specs.Words.{Asking}
use Rattle.advert_ask.specs.declared.loading.Loaded.{Loaded}
use Rattle.advert_ask.specs.Due.{ComesTo}

-- a read of one of the files that are asked for failed; where the last failed name is told it is one of them, and where
-- contents are told those before it are there and small enough
abbrev pub IsUnread : Option Contents → Asking → Reads → Type 0
IsUnread told asked r = Rose r.faults r.faults_now × StopsAt told (in_order asked) r.last_now

-- the asks are few, and so are the clauses that a search may learn
abbrev pub IsReady : Loaded → Type 0
IsReady loaded = (length loaded.asks ≤ MOST_ASKS) × IsBudget loaded.budget

-- what comes of what is asked for: a network and asks over it, or where that stops
abbrev pub LoadsSo : Option Contents → Asking → Reads → Result Loaded Stop → Type 0
LoadsSo told asked r (Ok loaded) =
    NoReadFailed r × ComesTo told asked (Ok (loaded.net.files, loaded.asks)) × (loaded.budget ≡ asked.budget)
    × IsReady loaded
LoadsSo told asked r (Err (stop.Refused line)) = NoReadFailed r × ComesTo told asked (Err (refused line))
LoadsSo told asked r (Err stop.ReadFault) = IsUnread told asked r
LoadsSo told asked r (Err stop.Memory) = NoReadFailed r

-- nothing comes where nothing is asked for
abbrev pub WorksBy : Option Contents → Option Asking → Reads → Result (Option Loaded) Stop → Type 0
WorksBy told asking r (Ok None) = NoReadFailed r × (asking ≡ None)
WorksBy told asking r (Ok (Some loaded)) = (asked : Asking) × (asking ≡ Some asked) × LoadsSo told asked r (Ok loaded)
WorksBy told asking r (Err (stop.Refused line)) =
    (asked : Asking) × (asking ≡ Some asked) × LoadsSo told asked r (Err (stop.Refused line))
WorksBy told asking r (Err stop.ReadFault) =
    (asked : Asking) × (asking ≡ Some asked) × LoadsSo told asked r (Err stop.ReadFault)
WorksBy told asking r (Err stop.Memory) = NoReadFailed r
