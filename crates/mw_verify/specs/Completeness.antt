-- Completeness: where no read and no write failed, what is due comes whole, or memory was wanting.
use Rattle.std.specs.Prelude.{◌≡◌, ◌⊎◌, Option, Some, None}
use Rattle.mw_outside.specs.Contents.{Contents}
use Rattle.mw_outside.specs.Faults.{Rose}
use Rattle.mw_outside.specs.Taken.{Takes}
use Rattle.run_inputs.specs.Due.{Command, Outcome, command_of, due_by, either, ring_due}
use Rattle.run_inputs.specs.Due.{to_verify, to_check, to_replay, to_simulate, to_gen}
use Rattle.run_inputs.specs.Due.{usage, unread, refused, answering, replaying, checking, simulating, generating}
use Rattle.run_inputs.specs.Texts.{usage_text}
use Rattle.run_answers.specs.declared.status.Status.{Status}
use Rattle.run_answers.specs.declared.status.Status.TheVariants.{Good, Bad, Unknown, Usage, Refused, Memory}
use Rattle.run_answers.specs.Running.{IsAnswered}
use Rattle.mw_verify.specs.Runs.{Course}

-- ---- what is due

-- what `gen` comes to, for which no file is read
abbrev pub IsOfRing : Option Command → Outcome → Type 0
IsOfRing (Some (to_gen budget routers)) outcome = either (ring_due budget routers) ≡ outcome
IsOfRing (Some (to_verify budget questions names)) outcome = ⊥
IsOfRing (Some (to_check log questions names)) outcome = ⊥
IsOfRing (Some (to_replay cex questions names)) outcome = ⊥
IsOfRing (Some (to_simulate events names)) outcome = ⊥
IsOfRing None outcome = ⊥

-- what the command and the files come to, where the contents of the files are told; what `gen` does, told or not
abbrev pub IsKnownDue : Option Contents → Option Command → Outcome → Type 0
IsKnownDue (Some contents) command outcome = due_by contents command ≡ outcome
IsKnownDue None command outcome = IsOfRing command outcome

-- ---- what comes

-- 0, 1 or 2, by the verdicts
abbrev pub IsOfVerdicts : Status → Type 0
IsOfVerdicts status = (status ≡ Good) ⊎ ((status ≡ Bad) ⊎ (status ≡ Unknown))

-- 0 or 1: yes or no, quiet or busy
abbrev pub IsYesOrNo : Status → Type 0
IsYesOrNo status = (status ≡ Good) ⊎ (status ≡ Bad)

-- the whole answer stands
abbrev pub StandsWhole : Course → Outcome → Status → Type 0
StandsWhole c outcome status = IsAnswered outcome status c.before c.now c.logged_before c.logged_now c.tolds

-- What is due comes, with a status that goes with it. Words that are no command get the usage line, and a file that is
-- refused its line. Where the configurations are a network, `verify` and `gen` print a verdict for each question, and
-- the other commands their answer. A file that is not there cannot be read without a fault.
abbrev pub Comes : Course → Outcome → Status → Type 0
Comes c usage status = (status ≡ Usage) × Takes c.before c.now usage_text
Comes c unread status = ⊥
Comes c (refused line) status = (status ≡ Refused) × Takes c.before c.now line
Comes c (answering files questions budget) status =
    IsOfVerdicts status × StandsWhole c (answering files questions budget) status
Comes c (generating routers files questions budget) status =
    IsOfVerdicts status × StandsWhole c (generating routers files questions budget) status
Comes c (replaying files questions cex) status = IsYesOrNo status × StandsWhole c (replaying files questions cex) status
Comes c (checking files questions log) status = IsYesOrNo status × StandsWhole c (checking files questions log) status
Comes c (simulating files last) status = IsYesOrNo status × StandsWhole c (simulating files last) status

-- ---- completeness

-- no count of faults rose: of reads of the files, of writes of the output and of writes of the log
abbrev pub IsFaultless : Course → Type 0
IsFaultless c = (Rose c.reads c.reads_now → ⊥) × (Rose c.writes c.writes_now → ⊥) × (Rose c.logs c.logs_now → ⊥)

-- where no count of faults rose, what is due comes, or memory was wanting
abbrev pub IsComplete : Course → Status → Type 0
IsComplete c status =
    (outcome : Outcome) → IsKnownDue c.told (command_of c.words) outcome → IsFaultless c →
    (status ≡ Memory) ⊎ Comes c outcome status
