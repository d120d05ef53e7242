-- Answers to asks about two networks, one after another.
use Rattle.std.specs.Prelude.{ℕ, Bool, true, false, List}
use Rattle.asked_files.specs.Answering.{Answering}
use Rattle.cdcl_search.specs.Turns.{TellBumps}
use Rattle.ios_ast.specs.declared.file.File.{File}
use Rattle.same_asks.specs.declared.same.Same.{Same}
use Rattle.pair_search.specs.declared.verdict.SameVerdict.{SameVerdict}
use Rattle.pair_search.specs.declared.verdict.SameVerdict.TheVariants as verdict
use Rattle.pair_search.specs.Searches.{IsUnfinished}
use Rattle.pair_search.specs.Verdicts.{Answer, IsAnswer, same_section, verdict_text}

abbrev pub is_different : SameVerdict → Bool
is_different verdict.Same = false
is_different (verdict.Different one other apart) = true
is_different (verdict.Unknown after) = false

abbrev pub is_unknown : SameVerdict → Bool
is_unknown verdict.Same = false
is_unknown (verdict.Different one other apart) = false
is_unknown (verdict.Unknown after) = true

-- a right verdict comes with the entries of the section of the log that shows it
abbrev pub answering : List File → List File → ℕ → Answering Same Answer
answering left right budget = record {
  Right = IsAnswer left right budget;
  lines = λ ask answer. verdict_text left right ask answer.verdict;
  section = λ ask answer. same_section ask answer.section;
  broken = λ answer. is_different answer.verdict;
  unknown = λ answer. is_unknown answer.verdict;
  Tells = λ tolds answer. TellBumps tolds answer.section;
  Unfinished = IsUnfinished left right budget;
}
