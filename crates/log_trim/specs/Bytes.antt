-- What the bytes of a log come to.
use Rattle.std.specs.Prelude.{◌≡◌, ⊤, ℕ, List, Option, IfSome}
use Rattle.mw_outside.specs.Contents.{Contents, TellsOnly}
use Rattle.mw_outside.specs.Faults.{Rose}
use Rattle.log_trim.specs.declared.work.Work.{Work}
use Rattle.log_trim.specs.declared.work.Work.TheVariants as work
use Rattle.log_trim.specs.Due.{Outcome, log_due, refused, trimming}
use Rattle.log_trim.specs.Running.{NoReadFailed, Reads}
use Rattle.trimmed_logs.specs.Logs.{Section}
use Rattle.trimmed_logs.specs.Texts.{AreTrimmed}

-- P of the line of a refusal; nothing else is answered but want of memory
abbrev pub OnRefused : Work → (List ℕ → Type 0) → Type 0
OnRefused work.Usage P = ⊥
OnRefused (work.Refused line) P = P line
OnRefused (work.Trimmed text) P = ⊥
OnRefused work.ReadFault P = ⊥
OnRefused work.Memory P = ⊤

-- what is due, or want of memory
abbrev pub BecomesOf : Outcome → Work → Type 0
BecomesOf outcome work.Usage = ⊥
BecomesOf outcome (work.Refused line) = outcome ≡ refused line
BecomesOf outcome (work.Trimmed text) = (sections : List Section) × (outcome ≡ trimming sections) × AreTrimmed sections text
BecomesOf outcome work.ReadFault = ⊥
BecomesOf outcome work.Memory = ⊤

-- what the log of that name comes to
abbrev pub LogWorksSo : Option Contents → List ℕ → Reads → Work → Type 0
LogWorksSo told name r work.Usage = ⊥
LogWorksSo told name r (work.Refused line) =
    NoReadFailed r × IfSome told (λ contents. log_due contents name ≡ refused line)
LogWorksSo told name r (work.Trimmed text) =
    NoReadFailed r × ((sections : List Section) × IfSome told (λ contents. log_due contents name ≡ trimming sections)
    × AreTrimmed sections text)
LogWorksSo told name r work.ReadFault = Rose r.faults r.faults_now × TellsOnly name r.last_now
LogWorksSo told name r work.Memory = NoReadFailed r
