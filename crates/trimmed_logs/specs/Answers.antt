-- What the text of a log comes to.
use Rattle.std.specs.Prelude.{◌≡◌, ◌==◌, ◌+◌, ◌≤◌, ⊤, ℕ, List, Ok, Err, length, if◌then◌else◌}
use Rattle.log_checker.specs.declared.cause.Cause.TheVariants.{Missing}
use Rattle.trimmed_logs.specs.declared.answer.Answer.{Answer}
use Rattle.trimmed_logs.specs.declared.answer.Answer.TheVariants.{Trimmed, Wrong}
use Rattle.trimmed_logs.specs.Logs.{Section, sections_in}
use Rattle.trimmed_logs.specs.Texts.{AreTrimmed}

-- the trimmed form of all sections, or the first line that is wrong
abbrev pub IsAnswerTo : List ℕ → Answer → Type 0
IsAnswerTo bytes (Trimmed text) =
    (sections : List Section) × (sections_in bytes ≡ Ok sections) × AreTrimmed sections text
IsAnswerTo bytes (Wrong line cause) = sections_in bytes ≡ Err (record { line = line; cause = cause })

-- where so many lines were right, and nothing is left
abbrev pub answer_at_end : ℕ → List ℕ → Answer
answer_at_end lines text = if lines == 0 then Wrong 1 Missing else Trimmed text

-- a line that is wrong is one of the text, or the next
abbrev pub IsWithin : List ℕ → Answer → Type 0
IsWithin bytes (Trimmed text) = ⊤
IsWithin bytes (Wrong line cause) = line ≤ length bytes + 1
