-- Answers to asks, one after another.
use Rattle.std.specs.Prelude.{ℕ, Bool, true, false, List}
use Rattle.asked_files.specs.Answering.{Answering}
use Rattle.ask_search.specs.declared.verdict.AskVerdict.{AskVerdict}
use Rattle.ask_search.specs.declared.verdict.AskVerdict.TheVariants.{Holds, Broken, Unknown}
use Rattle.ask_search.specs.Searches.{IsUnfinished}
use Rattle.ask_search.specs.Verdicts.{Answer, IsAnswer, ask_section, verdict_text}
use Rattle.cdcl_search.specs.Turns.{TellBumps}
use Rattle.export_asks.specs.declared.ask.Ask.{Ask}
use Rattle.ios_ast.specs.declared.file.File.{File}

abbrev pub is_broken : AskVerdict → Bool
is_broken Holds = false
is_broken (Broken len cex) = true
is_broken (Unknown after) = false

abbrev pub is_unknown : AskVerdict → Bool
is_unknown Holds = false
is_unknown (Broken len cex) = false
is_unknown (Unknown after) = true

-- a right verdict comes with the entries of the section of the log that shows it
abbrev pub answering : List File → ℕ → Answering Ask Answer
answering files budget = record {
  Right = IsAnswer files budget;
  lines = λ ask answer. verdict_text files ask answer.verdict;
  section = λ ask answer. ask_section ask answer.section;
  broken = λ answer. is_broken answer.verdict;
  unknown = λ answer. is_unknown answer.verdict;
  Tells = λ tolds answer. TellBumps tolds answer.section;
  Unfinished = IsUnfinished files budget;
}
