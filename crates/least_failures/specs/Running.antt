-- How the command ends, and what stands then.
use Rattle.std.specs.Prelude.{◌≡◌, ◌⊎◌, ℕ, List, Option, None, IsSomeAnd}
use Rattle.ios_ast.specs.declared.file.File.{File}
use Rattle.log_trim.specs.Running.{NoReadFailed, Reads}
use Rattle.log_trim.specs.Texts.{usage_text}
use Rattle.mw_load.specs.declared.ended.Ended.{Ended}
use Rattle.mw_load.specs.declared.ended.Ended.TheVariants.{Good, Bad, Unknown, Usage, Refused, ReadFault, WriteFault, Memory}
use Rattle.mw_outside.specs.Contents.{Contents}
use Rattle.mw_outside.specs.Taken.{Takes}
use Rattle.question_lang.specs.declared.question.Question.{Question}
use Rattle.run_inputs.specs.Due.{answering, refused}
use Rattle.asked_files.specs.Ending.{IsLineBegun, NoWriteFailed, SomeWriteFailed, Writes}
use Rattle.least_failures.specs.Answering.{IsBegun, IsDone}
use Rattle.least_failures.specs.Due.{IsDue, due_by, in_order}
use Rattle.least_failures.specs.Loading.{IsUnread}
use Rattle.least_failures.specs.Words.{asked_of}

-- the questions over the network of the files are answered
abbrev pub EndsAnswered : Option Contents → List (List ℕ) → Writes → Ended → Type 0
EndsAnswered told words w how =
    (files : List File) × (questions : List Question) × (budget : ℕ)
    × IsDue told words (answering files questions budget) × IsDone files questions budget w how

-- the line stands alone
abbrev pub IsLine : Writes → List ℕ → Type 0
IsLine w line = Takes w.taken w.taken_now line

-- a front of what is due stands: nothing; of the line of usage or of a refusal; or of right answers to the first
-- questions, with their sections
abbrev pub EndsCut : Option Contents → List (List ℕ) → Writes → Type 0
EndsCut told words w =
    ((w.taken_now ≡ w.taken) × (w.logged_now ≡ w.logged))
    ⊎ (((asked_of words ≡ None) × IsLineBegun w usage_text)
    ⊎ (((line : List ℕ) × IsDue told words (refused line) × IsLineBegun w line)
    ⊎ ((files : List File) × (questions : List Question) × (budget : ℕ)
    × IsDue told words (answering files questions budget) × IsBegun files questions budget w)))

-- With 0, 1 or 2 every question is answered, and this says how. With 3 the words are no command, and the line of usage is
-- printed; with 4 the line of the first refusal. With 5 a read of a named file failed, and nothing is printed; with these
-- three nothing is logged, as `Unlogged` says. With 6 a write failed; with 6 and 7 a front of what is due stands.
abbrev pub EndsSo : Option Contents → List (List ℕ) → Reads → Writes → Type 0 → Ended → Type 0
EndsSo told words r w Unlogged Good = NoReadFailed r × NoWriteFailed w × EndsAnswered told words w Good
EndsSo told words r w Unlogged Bad = NoReadFailed r × NoWriteFailed w × EndsAnswered told words w Bad
EndsSo told words r w Unlogged Unknown = NoReadFailed r × NoWriteFailed w × EndsAnswered told words w Unknown
EndsSo told words r w Unlogged Usage =
    NoReadFailed r × NoWriteFailed w × Unlogged × (asked_of words ≡ None) × IsLine w usage_text
EndsSo told words r w Unlogged Refused =
    NoReadFailed r × NoWriteFailed w × Unlogged × ((line : List ℕ) × IsDue told words (refused line) × IsLine w line)
EndsSo told words r w Unlogged ReadFault =
    IsUnread told (in_order words) r × NoWriteFailed w × Unlogged × (w.taken_now ≡ w.taken)
EndsSo told words r w Unlogged WriteFault = NoReadFailed r × SomeWriteFailed w × EndsCut told words w
EndsSo told words r w Unlogged Memory = NoReadFailed r × NoWriteFailed w × EndsCut told words w

-- ---- completeness

-- the words are a command, and the files that they name are accepted
abbrev pub IsAccepted : Option Contents → List (List ℕ) → Type 0
IsAccepted told words =
    IsSomeAnd told (λ contents. (files : List File) × (questions : List Question) × (budget : ℕ)
    × (due_by contents (asked_of words) ≡ answering files questions budget))
