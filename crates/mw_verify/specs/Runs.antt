-- How a run ends, status by status.
use Rattle.std.specs.Prelude.{◌≡◌, ◌⊎◌, ℕ, true, false, List, Option}
use Rattle.mw_outside.specs.Contents.{Contents}
use Rattle.mw_outside.specs.Faults.{Rose}
use Rattle.mw_outside.specs.Taken.{Takes, TakesPart}
use Rattle.run_inputs.specs.Due.{IsDue, Outcome, is_command, refused}
use Rattle.run_inputs.specs.Order.{StopsIn, in_order}
use Rattle.run_inputs.specs.Texts.{usage_text}
use Rattle.run_answers.specs.declared.status.Status.{Status}
use Rattle.run_answers.specs.declared.status.Status.TheVariants.{Good, Bad, Unknown, Usage, Refused, ReadFault}
use Rattle.run_answers.specs.declared.status.Status.TheVariants.{WriteFault, Memory}
use Rattle.run_answers.specs.Running.{IsAnswered, Stands}

-- what a run begins with, and what it leaves: the contents of the files and the words; what the output and the log took
-- before and now, and what the deciders tell; the count of failed reads and the last failed name; and the counts of
-- failed writes of both
pub record Course : Type 0 where
  pub told : Option Contents
  pub words : List (List ℕ)
  pub before : Option (List ℕ)
  pub now : Option (List ℕ)
  pub logged_before : Option (List ℕ)
  pub logged_now : Option (List ℕ)
  pub tolds : List (Option (List ℕ))
  pub reads : ℕ
  pub reads_now : ℕ
  pub last : Option (List ℕ)
  pub last_now : Option (List ℕ)
  pub writes : ℕ
  pub writes_now : ℕ
  pub logs : ℕ
  pub logs_now : ℕ

-- no read failed
abbrev pub IsRead : Course → Type 0
IsRead c = (c.reads_now ≡ c.reads) × (c.last_now ≡ c.last)

-- no write failed
abbrev pub IsWritten : Course → Type 0
IsWritten c = (c.writes_now ≡ c.writes) × (c.logs_now ≡ c.logs)

-- some write did
abbrev pub IsUnwritten : Course → Type 0
IsUnwritten c = Rose c.writes c.writes_now ⊎ Rose c.logs c.logs_now

-- what is due is answered
abbrev pub EndsAnswered : Course → Status → Type 0
EndsAnswered c status =
    (outcome : Outcome) × IsDue c.told c.words outcome
    × IsAnswered outcome status c.before c.now c.logged_before c.logged_now c.tolds

-- a front of it stands
abbrev pub EndsCut : Course → Type 0
EndsCut c =
    (outcome : Outcome) × IsDue c.told c.words outcome × Stands outcome c.before c.now c.logged_before c.logged_now

-- the line of the first refusal stands
abbrev pub EndsRefused : Course → Type 0
EndsRefused c = (line : List ℕ) × Takes c.before c.now line × IsDue c.told c.words (refused line)

-- the first file in the order of work that cannot be read was not read, and nothing is printed
abbrev pub EndsUnread : Course → Type 0
EndsUnread c =
    Rose c.reads c.reads_now × StopsIn c.told (in_order c.words) c.last_now × (c.now ≡ c.before)

-- how a run ends with a status, where `Unlogged` says that nothing is logged
abbrev pub EndsSo : Course → Type 0 → Status → Type 0
EndsSo c Unlogged Good = (is_command c.words ≡ true) × EndsAnswered c Good × IsRead c × IsWritten c
EndsSo c Unlogged Bad = (is_command c.words ≡ true) × EndsAnswered c Bad × IsRead c × IsWritten c
EndsSo c Unlogged Unknown = (is_command c.words ≡ true) × EndsAnswered c Unknown × IsRead c × IsWritten c
EndsSo c Unlogged Usage =
    (is_command c.words ≡ false) × Takes c.before c.now usage_text × IsRead c × IsWritten c × Unlogged
EndsSo c Unlogged Refused = (is_command c.words ≡ true) × EndsRefused c × IsRead c × IsWritten c × Unlogged
EndsSo c Unlogged ReadFault = (is_command c.words ≡ true) × EndsUnread c × IsWritten c × Unlogged
EndsSo c Unlogged WriteFault = IsUnwritten c × EndsCut c × IsRead c
EndsSo c Unlogged Memory = EndsCut c × IsRead c × IsWritten c

-- how the print of a line ends: with a status, or where the write fails, after which a front of the line stands
abbrev pub PrintsSo : List ℕ → Status → Status → Option (List ℕ) → Option (List ℕ) → ℕ → ℕ → Type 0
PrintsSo line wanted status before now writes writes_now =
    ((status ≡ wanted) × Takes before now line × (writes_now ≡ writes))
    ⊎ ((status ≡ WriteFault) × TakesPart before now line × Rose writes writes_now)
