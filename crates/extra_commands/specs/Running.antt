-- How a run of the second program ends, command by command.
use Rattle.std.specs.Prelude.{ℕ, List, Option}
use Rattle.mw_outside.specs.Contents.{Contents}
use Rattle.mw_load.specs.declared.ended.Ended.{Ended}
use Rattle.mw_load.specs.declared.ended.Ended.TheVariants as ended
use Rattle.asked_files.specs.Ending.{IsComplete, NoFault, Writes}
use Rattle.asked_files.specs.Running as asked
use Rattle.advert_ask.specs.Running.{advertising}
use Rattle.advert_ask.specs.Words as advert
use Rattle.compare_words.specs.Words as compare
use Rattle.least_failures.specs.Running as least
use Rattle.log_trim.specs.Printing.{PrintsSo}
use Rattle.log_trim.specs.Running as trim
use Rattle.log_trim.specs.Texts.{usage_text}
use Rattle.net_compare.specs.Running.{comparing}
use Rattle.extra_commands.specs.declared.commands.Command.{Command}
use Rattle.extra_commands.specs.declared.commands.Command.TheVariants.{Advert, Compare, Least, Trim, Unknown}

-- what a run begins with, and what it leaves: the contents of the files and the words, what reads have done, what writes of
-- the output and of the log have, and what the deciders tell
pub record Course : Type 0 where
  pub told : Option Contents
  pub words : List (List ℕ)
  pub reads : trim.Reads
  pub writes : Writes

-- what writes of the output have done
abbrev pub printed : Writes → trim.Writes
printed w = record { taken = w.taken; taken_now = w.taken_now; faults = w.faults; faults_now = w.faults_now }

-- the usage line is printed, and nothing is read
abbrev pub EndsUsage : Course → Ended → Type 0
EndsUsage c result =
    trim.NoReadFailed c.reads
    × PrintsSo c.writes.taken c.writes.taken_now c.writes.faults c.writes.faults_now usage_text ended.Usage result

-- Each command ends as its own call does, where `Unlogged` says that nothing is logged.
abbrev pub EndsSo : Command → Course → Type 0 → Ended → Type 0
EndsSo Advert c Unlogged result =
    asked.EndsSo advertising c.told (advert.asked_of c.words) c.reads c.writes Unlogged result
EndsSo Compare c Unlogged result = asked.EndsSo comparing c.told (compare.asked_of c.words) c.reads c.writes Unlogged result
EndsSo Least c Unlogged result = least.EndsSo c.told c.words c.reads c.writes Unlogged result
EndsSo Trim c Unlogged result = trim.EndsSo c.told c.words c.reads (printed c.writes) result × Unlogged
EndsSo Unknown c Unlogged result = EndsUsage c result × Unlogged

-- Where the words of `advert`, `compare` or `least` and the files are accepted, and no fault came, every ask or question is answered,
-- or memory was refused.
abbrev pub CompletesSo : Command → Course → Ended → Type 0
CompletesSo Advert c result =
    asked.IsAccepted advertising c.told (advert.asked_of c.words) → NoFault c.reads c.writes → IsComplete result
CompletesSo Compare c result =
    asked.IsAccepted comparing c.told (compare.asked_of c.words) → NoFault c.reads c.writes → IsComplete result
CompletesSo Least c result = least.IsAccepted c.told c.words → NoFault c.reads c.writes → IsComplete result
CompletesSo Trim c result = Unit {0}
CompletesSo Unknown c result = Unit {0}

-- both: how a run of the command ends, and that it answers all that it should
pub record Runs (command : Command) (c : Course) (Unlogged : Type 0) (result : Ended) : Type 0 where
  pub so : EndsSo command c Unlogged result
  pub complete : CompletesSo command c result
