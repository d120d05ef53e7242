-- Answers to questions one after another.
use Rattle.std.specs.Prelude.{◌≡◌, ◌⊎◌, ℕ, ◌+◌, Bool, true, false, List, [], ◌∷◌, ◌++◌, take, slice_get, IfSome}
use Rattle.std.specs.Prelude.{Option, Some, None}
use Rattle.std.specs.List.{last_or, list_any}
use Rattle.ios_ast.specs.declared.file.File.{File}
use Rattle.mw_load.specs.declared.ended.Ended.{Ended}
use Rattle.mw_load.specs.declared.ended.Ended.TheVariants as ended
use Rattle.mw_outside.specs.Taken.{Takes, TakesPart}
use Rattle.question_lang.specs.declared.question.Question.{Question}
use Rattle.run_answers.specs.declared.halt.Halt.{Halt}
use Rattle.run_answers.specs.declared.halt.Halt.TheVariants as halt
use Rattle.asked_files.specs.Ending.{NoWriteFailed, SomeWriteFailed, Writes, ended_by}
use Rattle.least_failures.specs.declared.outcome.Least.{Least}
use Rattle.least_failures.specs.declared.outcome.Least.TheVariants as least
use Rattle.least_failures.specs.declared.outcome.LeastFault.{LeastFault}
use Rattle.least_failures.specs.declared.outcome.LeastFault.TheVariants as fault
use Rattle.least_failures.specs.Finding.{IsFound, IsUnfound, TellLast}
use Rattle.least_failures.specs.Leasts.{Answer, IsAnswer, trials_text}
use Rattle.least_failures.specs.Lines.{least_text}

-- ---- answers

-- the answers are right, in the order of the questions, the first of which has that number
abbrev pub AreRight : List File → ℕ → ℕ → List Question → List Answer → Type 0
AreRight files budget number [] [] = Unit {0}
AreRight files budget number [] (answer ∷ others) = ⊥
AreRight files budget number (question ∷ rest) [] = ⊥
AreRight files budget number (question ∷ rest) (answer ∷ others) =
    IsAnswer files budget number question answer × AreRight files budget (number + 1) rest others

-- the lines of the answers to some of the questions
abbrev pub answers_text : List File → List Question → ℕ → List Question → List Answer → List ℕ
answers_text files all budget [] answers = []
answers_text files all budget (question ∷ rest) [] = []
answers_text files all budget (question ∷ rest) (answer ∷ others) =
    least_text files all question budget answer.found ++ answers_text files all budget rest others

-- their sections of the log
abbrev pub sections_text : List Question → List Answer → List ℕ
sections_text [] answers = []
sections_text (question ∷ rest) [] = []
sections_text (question ∷ rest) (answer ∷ others) =
    trials_text question 0 answer.sections ++ sections_text rest others

abbrev pub is_broken : Least → Bool
is_broken (least.At k cex) = true
is_broken (least.NoneUpTo k) = false
is_broken (least.Unknown k) = false

abbrev pub is_unknown : Least → Bool
is_unknown (least.At k cex) = false
is_unknown (least.NoneUpTo k) = false
is_unknown (least.Unknown k) = true

-- how the command ends where some question has a least number, or some is not known
abbrev pub ended_of : List Answer → Ended
ended_of answers = ended_by (list_any (λ a. is_broken a.found) answers) (list_any (λ a. is_unknown a.found) answers)

-- each decider that tells its bumps tells those of the last section of the last answer, if there is one
abbrev pub TellLastOf : List (Option (List ℕ)) → List Answer → Type 0
TellLastOf tolds answers = IfSome (last_or None answers) (λ last. TellLast tolds last.sections)

-- ---- one question

-- what is found is right and stands in the log, and its lines are printed
abbrev pub IsPut : List File → List Question → ℕ → ℕ → Question → Option (List ℕ) → Option (List ℕ) → Option (List ℕ)
    → Option (List ℕ) → List (Option (List ℕ)) → Least → Type 0
IsPut files all budget number question before now logged_before logged_now tolds found =
    IsFound files budget number question logged_before logged_now tolds found
    × Takes before now (least_text files all question budget found)

-- that was cut short: in its trials, where nothing is printed, or while its lines were printed
abbrev pub IsCutShort : List File → List Question → ℕ → ℕ → Question → Option (List ℕ) → Option (List ℕ)
    → Option (List ℕ) → Option (List ℕ) → Type 0
IsCutShort files all budget number question before now logged_before logged_now =
    ((now ≡ before) × IsUnfound files budget question logged_before logged_now)
    ⊎ ((answer : Answer) × IsAnswer files budget number question answer
    × Takes logged_before logged_now (trials_text question 0 answer.sections)
    × TakesPart before now (least_text files all question budget answer.found))

-- ---- all questions

-- right answers to all questions in their order, and the command ends as they say
pub record AreAnswered (files : List File) (questions : List Question) (budget : ℕ)
    (before now logged_before logged_now : Option (List ℕ)) (tolds : List (Option (List ℕ))) (how : Ended) : Type 0
  where
    pub answers : List Answer
    pub right : AreRight files budget 0 questions answers
    pub ends : how ≡ ended_of answers
    pub text : Takes before now (answers_text files questions budget questions answers)
    pub logged : Takes logged_before logged_now (sections_text questions answers)
    pub bumps : TellLastOf tolds answers

-- the command ended early: right answers to the first questions. A front of their lines is printed; their sections stand
-- whole in the log, and after them nothing, or what the trials of the next question left
pub record AreBegun (files : List File) (questions : List Question) (budget : ℕ)
    (before now logged_before logged_now : Option (List ℕ)) : Type 0 where
  pub count : ℕ
  pub answers : List Answer
  pub right : AreRight files budget 0 (take count questions) answers
  pub text : TakesPart before now (answers_text files questions budget (take count questions) answers)
  pub middle : Option (List ℕ)
  pub logged : Takes logged_before middle (sections_text (take count questions) answers)
  pub next : (logged_now ≡ middle) ⊎ ((question : Question) × (slice_get questions count ≡ Some question)
      × IsUnfound files budget question middle logged_now)

-- ---- how they end

-- every question is answered
abbrev pub IsDone : List File → List Question → ℕ → Writes → Ended → Type 0
IsDone files questions budget w how =
    AreAnswered files questions budget w.taken w.taken_now w.logged w.logged_now w.tolds how

-- the first ones are
abbrev pub IsBegun : List File → List Question → ℕ → Writes → Type 0
IsBegun files questions budget w = AreBegun files questions budget w.taken w.taken_now w.logged w.logged_now

-- the answers end with all of them, or early
abbrev pub AnswersSo : List File → List Question → ℕ → Writes → Ended → Type 0
AnswersSo files questions budget w ended.Good = NoWriteFailed w × IsDone files questions budget w ended.Good
AnswersSo files questions budget w ended.Bad = NoWriteFailed w × IsDone files questions budget w ended.Bad
AnswersSo files questions budget w ended.Unknown = NoWriteFailed w × IsDone files questions budget w ended.Unknown
AnswersSo files questions budget w ended.Usage = ⊥
AnswersSo files questions budget w ended.Refused = ⊥
AnswersSo files questions budget w ended.ReadFault = ⊥
AnswersSo files questions budget w ended.WriteFault = SomeWriteFailed w × IsBegun files questions budget w
AnswersSo files questions budget w ended.Memory = NoWriteFailed w × IsBegun files questions budget w

-- a fault of the log is a fault of writing
abbrev pub halt_of : LeastFault → Halt
halt_of fault.LogFault = halt.WriteFault
halt_of fault.Memory = halt.Memory
