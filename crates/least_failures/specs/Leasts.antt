-- The least number of failed links with which something breaks a question, and what shows it.
use Rattle.std.specs.Prelude.{◌≡◌, ℕ, ◌+◌, ◌==◌, ◌≤◌, List, [], ◌∷◌, ◌++◌, length, slice_get, Some, if◌then◌else◌}
use Rattle.cex_json.specs.Counterexamples.{IsTrueCounterexample}
use Rattle.ios_ast.specs.declared.file.File.{File}
use Rattle.question_lang.specs.Breaking.{IsUnbroken}
use Rattle.question_lang.specs.declared.question.Question.{Question}
use Rattle.resolution_check.specs.declared.log.Entry.{Entry}
use Rattle.run_answers.specs.declared.verdict.Verdict.{Verdict}
use Rattle.run_answers.specs.declared.verdict.Verdict.TheVariants as verdict
use Rattle.run_answers.specs.Verdicts.{IsSection, section_text}
use Rattle.least_failures.specs.declared.outcome.Least.{Least}
use Rattle.least_failures.specs.declared.outcome.Least.TheVariants.{At, NoneUpTo, Unknown}
use Rattle.least_failures.specs.Trials.{SurvivesFewer, trial}

-- what is found is right of the question of that number
abbrev pub IsRight : List File → ℕ → Question → Least → Type 0
-- a true counterexample in which k links have failed, and fewer than k break nothing
IsRight files number question (At k cex) =
    IsTrueCounterexample files number question cex × (length cex.failures.links ≡ k) × SurvivesFewer files question k
-- as many as the question allows break nothing
IsRight files number question (NoneUpTo k) = (k ≡ question.failures) × IsUnbroken files question
-- fewer than k break nothing
IsRight files number question (Unknown k) = (k ≤ question.failures) × SurvivesFewer files question k

-- the trials are those with 0 failed links, with 1, and so on up to this number
abbrev pub last_trial : Least → ℕ
last_trial (At k cex) = k
last_trial (NoneUpTo k) = k
last_trial (Unknown k) = k

-- what the trial with j comes to where so many clauses may be learnt: only in the last something can break the question, or
-- nothing be found
abbrev pub verdict_at : ℕ → Least → ℕ → Verdict
verdict_at budget (At k cex) j = if j == k then verdict.Broken cex else verdict.Holds
verdict_at budget (NoneUpTo k) j = verdict.Holds
verdict_at budget (Unknown k) j = if j == k then verdict.Unknown budget else verdict.Holds

-- the sections of the trials, that with 0 first: each is the log of a search for what breaks the question where so many
-- links may fail, and shows what the trial comes to
pub record AreTrials (files : List File) (question : Question) (budget : ℕ) (found : Least)
    (sections : List (List Entry)) : Type 0 where
  pub count : length sections ≡ last_trial found + 1
  pub each : (j : ℕ) (entries : List Entry) → slice_get sections j ≡ Some entries →
      IsSection files (trial j question) budget (verdict_at budget found j) entries

-- what was found, and the sections of its trials
pub record Answer : Type 0 where
  pub found : Least
  pub sections : List (List Entry)

abbrev pub IsAnswer : List File → ℕ → ℕ → Question → Answer → Type 0
IsAnswer files budget number question answer =
    IsRight files number question answer.found × AreTrials files question budget answer.found answer.sections

-- the text of sections, of which the first is that of the trial with j
abbrev pub trials_text : Question → ℕ → List (List Entry) → List ℕ
trials_text question j [] = []
trials_text question j (entries ∷ rest) = section_text (trial j question) entries ++ trials_text question (j + 1) rest
