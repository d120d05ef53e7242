-- How one question is answered: its section of the log first, then its lines.
use Rattle.std.specs.Prelude.{◌≡◌, ◌⊎◌, ℕ, Bool, List, Option, Result, Ok, Err, if◌then◌else◌}
use Rattle.mw_outside.specs.Taken.{Takes, TakesPart}
use Rattle.resolution_check.specs.declared.log.Entry.{Entry}
use Rattle.resolution_check.specs.declared.log.Entry.TheVariants.{End}
use Rattle.resolution_check.specs.Text.{line_of}
use Rattle.cdcl_search.specs.Outcomes.{Shows}
use Rattle.cdcl_search.specs.Turns.{TellBumps}
use Rattle.cdcl_search.specs.declared.outcome.Outcome.{Outcome}
use Rattle.cdcl_search.specs.declared.outcome.SolveFault.{SolveFault}
use Rattle.cdcl_search.specs.declared.outcome.SolveFault.TheVariants as solve
use Rattle.ios_ast.specs.declared.file.File.{File}
use Rattle.question_lang.specs.declared.question.Question.{Question}
use Rattle.run_answers.specs.declared.verdict.Verdict.{Verdict}
use Rattle.run_answers.specs.declared.halt.Halt.{Halt}
use Rattle.run_answers.specs.declared.halt.Halt.TheVariants as halt
use Rattle.run_answers.specs.declared.seen.Seen.{Seen}
use Rattle.run_answers.specs.declared.status.Status.{Status}
use Rattle.run_answers.specs.declared.status.Status.TheVariants.{Bad, Good, Unknown}
use Rattle.run_answers.specs.Running.{IsSectionOf}
use Rattle.run_answers.specs.Verdicts.{Answer, IsAnswer, IsSearched, section_text, verdict_text}

-- a verdict with the section that shows it
abbrev pub answer_of : Verdict → List Entry → Answer
answer_of verdict section = record { verdict = verdict; section = section }

-- the verdict is right, and the section that shows it stands in the log
abbrev pub IsLogged : List File → ℕ → ℕ → Question → Verdict → Option (List ℕ) → Option (List ℕ) → Type 0
IsLogged files budget number question verdict logged_before logged_now =
    (section : List Entry) × IsAnswer files budget number question (answer_of verdict section)
    × Takes logged_before logged_now (section_text question section)

-- the same, and each decider that tells its bumps tells those of that section
abbrev pub IsToldSo : List File → ℕ → ℕ → Question → Verdict → Option (List ℕ) → Option (List ℕ)
    → List (Option (List ℕ)) → Type 0
IsToldSo files budget number question verdict logged_before logged_now tolds =
    (section : List Entry) × IsAnswer files budget number question (answer_of verdict section)
    × Takes logged_before logged_now (section_text question section) × TellBumps tolds section

-- a search found this outcome, its section stands in the log, and deciders tell its bumps
abbrev pub IsSearchedSo : List File → ℕ → Question → Outcome → Option (List ℕ) → Option (List ℕ)
    → List (Option (List ℕ)) → Type 0
IsSearchedSo files budget question outcome logged_before logged_now tolds =
    (entries : List Entry) × IsSearched files question budget entries × Shows budget entries outcome
    × Takes logged_before logged_now (section_text question entries) × TellBumps tolds entries

-- the line that closes a section
abbrev pub end_text : List ℕ
end_text = line_of End

-- a search was cut short: a front of what it may leave stands in the log
abbrev pub IsUnfinished : List File → ℕ → Question → Option (List ℕ) → Option (List ℕ) → Type 0
IsUnfinished files budget question logged_before logged_now =
    (text : List ℕ) × IsSectionOf files budget question text × TakesPart logged_before logged_now text

-- and the lines of the verdict are printed
abbrev pub IsPut : List File → List Question → ℕ → ℕ → Question → Verdict → Option (List ℕ) → Option (List ℕ)
    → Option (List ℕ) → Option (List ℕ) → List (Option (List ℕ)) → Type 0
IsPut files questions budget number question verdict before now logged_before logged_now tolds =
    IsToldSo files budget number question verdict logged_before logged_now tolds
    × Takes before now (verdict_text files questions question verdict)

-- the answer was cut short: in its search, where nothing is printed, or while its lines were printed
abbrev pub IsCutShort : List File → List Question → ℕ → ℕ → Question → Option (List ℕ) → Option (List ℕ)
    → Option (List ℕ) → Option (List ℕ) → Type 0
IsCutShort files questions budget number question before now logged_before logged_now =
    ((now ≡ before) × IsUnfinished files budget question logged_before logged_now)
    ⊎ ((verdict : Verdict) × IsLogged files budget number question verdict logged_before logged_now
    × TakesPart before now (verdict_text files questions question verdict))

-- a fault of the log is a fault of writing
abbrev pub halt_of : SolveFault → Halt
halt_of solve.LogFault = halt.WriteFault
halt_of solve.Memory = halt.Memory

-- P where a write failed
abbrev pub OnWriteFault : {A : Type 0} → Result A Halt → Type 0 → Type 0
OnWriteFault (Ok x) P = Unit {0}
OnWriteFault (Err halt.WriteFault) P = P
OnWriteFault (Err halt.Memory) P = Unit {0}

-- P unless one did
abbrev pub UnlessWriteFault : {A : Type 0} → Result A Halt → Type 0 → Type 0
UnlessWriteFault (Ok x) P = P
UnlessWriteFault (Err halt.WriteFault) P = Unit {0}
UnlessWriteFault (Err halt.Memory) P = P

-- how a run ends of whose verdicts some are `broken`, or some are `unknown`
abbrev pub status_by : Bool → Bool → Status
status_by broken unknown = if broken then Bad else (if unknown then Unknown else Good)

abbrev pub status_seen : Seen → Status
status_seen seen = status_by seen.broken seen.unknown
