-- How the command ends, and what stands then.
use Rattle.std.specs.Prelude.{◌≡◌, ℕ, List, Option, Some, IfSome}
use Rattle.mw_outside.specs.Contents.{Contents}
use Rattle.mw_outside.specs.Faults.{Rose}
use Rattle.mw_outside.specs.Taken.{Takes, TakesPart}
use Rattle.mw_load.specs.declared.ended.Ended.{Ended}
use Rattle.mw_load.specs.declared.ended.Ended.TheVariants.{Good, Bad, Unknown, Usage, Refused, ReadFault, WriteFault, Memory}
use Rattle.log_trim.specs.declared.work.Work.{Work}
use Rattle.log_trim.specs.declared.work.Work.TheVariants as work
use Rattle.log_trim.specs.Due.{IsDue, IsTextOf, Outcome, refused, trimming, usage}
use Rattle.log_trim.specs.Words.{log_named}
use Rattle.trimmed_logs.specs.Logs.{Section}

-- what reads have done: how many failed, before and now, and the name of the last one
pub record Reads : Type 0 where
  pub faults : ℕ
  pub faults_now : ℕ
  pub last : Option (List ℕ)
  pub last_now : Option (List ℕ)

-- what writes have done: the bytes taken and how many failed, before and now
pub record Writes : Type 0 where
  pub taken : Option (List ℕ)
  pub taken_now : Option (List ℕ)
  pub faults : ℕ
  pub faults_now : ℕ

-- no read failed
abbrev pub NoReadFailed : Reads → Type 0
NoReadFailed r = (r.faults_now ≡ r.faults) × (r.last_now ≡ r.last)

-- no write failed
abbrev pub NoWriteFailed : Writes → Type 0
NoWriteFailed w = w.faults_now ≡ w.faults

-- a read of the log that the words name failed
abbrev pub LogReadFailed : List (List ℕ) → Reads → Type 0
LogReadFailed words r =
    Rose r.faults r.faults_now × IfSome r.last_now (λ name. log_named words ≡ Some name)

-- the whole text of what is due was printed, or a front of it
pub record IsPrinted (told : Option Contents) (words : List (List ℕ)) (w : Writes) (outcome : Outcome) : Type 0 where
  pub due : IsDue told words outcome
  pub text : List ℕ
  pub is : IsTextOf outcome text
  pub takes : Takes w.taken w.taken_now text

pub record IsCut (told : Option Contents) (words : List (List ℕ)) (w : Writes) : Type 0 where
  pub outcome : Outcome
  pub due : IsDue told words outcome
  pub text : List ℕ
  pub is : IsTextOf outcome text
  pub part : TakesPart w.taken w.taken_now text

-- With 0 the trimmed form of each section is printed; with 3 the words are no command, and the usage line is; with 4 the
-- line of the first refusal. With 5 a read of the log failed, and nothing is printed; with 6 a write failed, and a front of
-- the text that is due is printed; with 7 nothing is. The command ends in no other way.
abbrev pub EndsSo : Option Contents → List (List ℕ) → Reads → Writes → Ended → Type 0
EndsSo told words r w Good =
    NoReadFailed r × NoWriteFailed w × ((sections : List Section) × IsPrinted told words w (trimming sections))
EndsSo told words r w Bad = ⊥
EndsSo told words r w Unknown = ⊥
EndsSo told words r w Usage = NoReadFailed r × NoWriteFailed w × IsPrinted told words w usage
EndsSo told words r w Refused =
    NoReadFailed r × NoWriteFailed w × ((line : List ℕ) × IsPrinted told words w (refused line))
EndsSo told words r w ReadFault = LogReadFailed words r × NoWriteFailed w × (w.taken_now ≡ w.taken)
EndsSo told words r w WriteFault = NoReadFailed r × Rose w.faults w.faults_now × IsCut told words w
EndsSo told words r w Memory = NoReadFailed r × NoWriteFailed w × (w.taken_now ≡ w.taken)

-- what was read, before anything is printed
abbrev pub WorksSo : Option Contents → List (List ℕ) → Reads → Work → Type 0
WorksSo told words r work.Usage = NoReadFailed r × IsDue told words usage
WorksSo told words r (work.Refused line) = NoReadFailed r × IsDue told words (refused line)
WorksSo told words r (work.Trimmed text) =
    NoReadFailed r × ((sections : List Section) × IsDue told words (trimming sections) × IsTextOf (trimming sections) text)
WorksSo told words r work.ReadFault = LogReadFailed words r
WorksSo told words r work.Memory = NoReadFailed r
