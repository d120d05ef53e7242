-- How the least number for one question is found.
use Rattle.std.specs.Prelude.{◌≡◌, ℕ, ◌≤◌, List, length, slice_get, IfSome, Option, Some, None, Result, Ok, Err}
use Rattle.std.specs.List.{last_or}
use Rattle.cdcl_search.specs.Turns.{TellBumps}
use Rattle.ios_ast.specs.declared.file.File.{File}
use Rattle.mw_outside.specs.Taken.{Takes}
use Rattle.question_lang.specs.declared.question.Question.{Question}
use Rattle.resolution_check.specs.declared.log.Entry.{Entry}
use Rattle.run_answers.specs.declared.verdict.Verdict.TheVariants.{Holds}
use Rattle.run_answers.specs.Answering.{IsUnfinished}
use Rattle.run_answers.specs.Verdicts.{IsSection}
use Rattle.least_failures.specs.declared.outcome.Least.{Least}
use Rattle.least_failures.specs.declared.outcome.LeastFault.{LeastFault}
use Rattle.least_failures.specs.declared.outcome.LeastFault.TheVariants.{LogFault, Memory}
use Rattle.least_failures.specs.Leasts.{AreTrials, IsRight, trials_text}
use Rattle.least_failures.specs.Trials.{trial}

-- each decider that tells its bumps tells those of the last section, if there is one
abbrev pub TellLast : List (Option (List ℕ)) → List (List Entry) → Type 0
TellLast tolds sections = IfSome (last_or None sections) (λ last. TellBumps tolds last)

-- what is found is right, the sections of the trials that show it stand in the log, and deciders tell the bumps of the
-- last one
pub record IsFound (files : List File) (budget number : ℕ) (question : Question)
    (logged_before logged_now : Option (List ℕ)) (tolds : List (Option (List ℕ))) (found : Least) : Type 0 where
  pub right : IsRight files number question found
  pub sections : List (List Entry)
  pub trials : AreTrials files question budget found sections
  pub logged : Takes logged_before logged_now (trials_text question 0 sections)
  pub bumps : TellLast tolds sections

-- the sections of trials so far, that with 0 first: each shows that nothing breaks the question
abbrev pub AreExcluded : List File → Question → ℕ → List (List Entry) → Type 0
AreExcluded files question budget sections =
    (j : ℕ) (entries : List Entry) → slice_get sections j ≡ Some entries →
    IsSection files (trial j question) budget Holds entries

-- the trials were cut short: whole sections of the first, each of which shows that nothing breaks the question, and a front
-- of what the search of the next may leave stand in the log
pub record IsUnfound (files : List File) (budget : ℕ) (question : Question)
    (logged_before logged_now : Option (List ℕ)) : Type 0 where
  pub sections : List (List Entry)
  pub few : length sections ≤ question.failures
  pub excluded : AreExcluded files question budget sections
  pub middle : Option (List ℕ)
  pub logged : Takes logged_before middle (trials_text question 0 sections)
  pub next : IsUnfinished files budget (trial (length sections) question) middle logged_now

-- P of the question of that number
abbrev pub OfQuestion : List Question → ℕ → (Question → Type 0) → Type 0
OfQuestion questions number P =
    (question : Question) × (slice_get questions number ≡ Some question) × P question

-- P at a fault of the log
abbrev pub OnLogFault : {A : Type 0} → Result A LeastFault → Type 0 → Type 0
OnLogFault (Ok found) P = Unit {0}
OnLogFault (Err LogFault) P = P
OnLogFault (Err Memory) P = Unit {0}

-- P unless there was one
abbrev pub UnlessLogFault : {A : Type 0} → Result A LeastFault → Type 0 → Type 0
UnlessLogFault (Ok found) P = P
UnlessLogFault (Err LogFault) P = Unit {0}
UnlessLogFault (Err Memory) P = P
