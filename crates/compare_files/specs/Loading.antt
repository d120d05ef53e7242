-- What comes of the words and of the files that they name, before anything is printed.
use Rattle.std.specs.Prelude.{◌≡◌, ◌≤◌, ℕ, List, [], ◌∷◌, ◌++◌, length, IfSome, Option, Some, None, Result, Ok, Err}
use Rattle.log_trim.specs.Running.{NoReadFailed, Reads}
use Rattle.mw_load.specs.Loading.{StopsAt}
use Rattle.mw_outside.specs.Contents.{Contents}
use Rattle.mw_outside.specs.Faults.{Rose}
use Rattle.net_model.specs.Kept.{Network}
use Rattle.net_parts.specs.Tracked.{tracked_of, united_tracked}
use Rattle.paired_nets.specs.Refusals.{pair_refusal}
use Rattle.run_inputs.specs.declared.load.Stop.{Stop}
use Rattle.run_inputs.specs.declared.load.Stop.TheVariants as stop
use Rattle.run_inputs.specs.Due.{refused}
use Rattle.run_inputs.specs.Loading.{IsBudget}
use Rattle.same_asks.specs.declared.reader.TheConstants.{MOST_ASKS}
use Rattle.same_asks.specs.declared.same.Same.{Same}
use Rattle.same_asks.specs.Asking.{AreKnown}
use Rattle.asked_files.specs.Network.{network_of}
use Rattle.compare_words.specs.Words.{Asking, Sides}
use Rattle.compare_files.specs.declared.loading.Loaded.{Loaded}
use Rattle.compare_files.specs.Due.{ComesTo, built, configs_of}

-- ---- where reading stops

-- the names of the files in the order in which they are read: the configurations, and then the asks
abbrev pub in_order : Asking → List (List ℕ)
in_order asked = configs_of asked.sides ++ asked.asks ∷ []

-- a read of one of the files that are asked for failed; where the last failed name is told it is one of them, and where
-- contents are told those before it are there and small enough
abbrev pub IsUnread : Option Contents → Asking → Reads → Type 0
IsUnread told asked r = Rose r.faults r.faults_now × StopsAt told (in_order asked) r.last_now

-- ---- networks that were built

-- the networks are those of the files of these names, where contents are told, and track the values that these name
pub record AreBuilt (told : Option Contents) (sides : Sides) (left right : Network) : Type 0 where
  pub left_read : IfSome told (λ contents. network_of contents sides.left ≡ Ok left.files)
  pub right_read : IfSome told (λ contents. network_of contents sides.right ≡ Ok right.files)
  pub left_tracks : left.tracked ≡ tracked_of left.files
  pub right_tracks : right.tracked ≡ tracked_of right.files

-- ---- what is ready to be answered

-- The networks are compared, and both track the values that the files of either name. The asks are few, each from a
-- router of both.
pub record AreBeside (left right : Network) (asks : List Same) : Type 0 where
  pub compared : pair_refusal (built left.files) (built right.files) ≡ None
  pub tracked : left.tracked ≡ united_tracked (tracked_of left.files) (tracked_of right.files)
  pub alike : left.tracked ≡ right.tracked
  pub known : AreKnown left.files right.files asks
  pub few : length asks ≤ MOST_ASKS

-- and so are the clauses that a search may learn
abbrev pub IsReady : Loaded → Type 0
IsReady loaded = AreBeside loaded.left loaded.right loaded.asks × IsBudget loaded.budget

-- what comes of what is asked for: two networks and asks over both, or where that stops
abbrev pub LoadsSo : Option Contents → Asking → Reads → Result Loaded Stop → Type 0
LoadsSo told asked r (Ok loaded) =
    NoReadFailed r × ComesTo told asked (Ok (loaded.left.files, loaded.right.files, loaded.asks))
    × (loaded.budget ≡ asked.budget) × IsReady loaded
LoadsSo told asked r (Err (stop.Refused line)) = NoReadFailed r × ComesTo told asked (Err (refused line))
LoadsSo told asked r (Err stop.ReadFault) = IsUnread told asked r
LoadsSo told asked r (Err stop.Memory) = NoReadFailed r

-- nothing comes where nothing is asked for
abbrev pub WorksBy : Option Contents → Option Asking → Reads → Result (Option Loaded) Stop → Type 0
WorksBy told asking r (Ok None) = NoReadFailed r × (asking ≡ None)
WorksBy told asking r (Ok (Some loaded)) = (asked : Asking) × (asking ≡ Some asked) × LoadsSo told asked r (Ok loaded)
WorksBy told asking r (Err (stop.Refused line)) =
    (asked : Asking) × (asking ≡ Some asked) × LoadsSo told asked r (Err (stop.Refused line))
WorksBy told asking r (Err stop.ReadFault) =
    (asked : Asking) × (asking ≡ Some asked) × LoadsSo told asked r (Err stop.ReadFault)
WorksBy told asking r (Err stop.Memory) = NoReadFailed r
