-- What stands of an answer about a log.
use Rattle.std.specs.Prelude.{◌≡◌, ◌⊎◌, ℕ, Bool, List, [], Option}
use Rattle.mw_outside.specs.Taken.{Takes, TakesPart}
use Rattle.ios_ast.specs.declared.file.File.{File}
use Rattle.log_answers.specs.declared.answer.LogAnswer.{LogAnswer}
use Rattle.log_answers.specs.declared.answer.LogAnswer.TheVariants.{Yes, No}
use Rattle.log_answers.specs.Answers.{IsLogAnswer, is_yes, log_answer_text}
use Rattle.question_lang.specs.declared.question.Question.{Question}
use Rattle.run_answers.specs.declared.status.Status.{Status}
use Rattle.run_answers.specs.declared.status.Status.TheVariants.{Good, Bad}

abbrev pub log_status : LogAnswer → Status
log_status Yes = Good
log_status (No line cause) = Bad

-- a right answer stands, and the status is its
pub record IsCheckedSo (files : List File) (questions : List Question) (name log : List ℕ) (status : Status)
    (before now : Option (List ℕ)) : Type 0 where
  pub answer : LogAnswer
  pub right : IsLogAnswer files questions log answer
  pub ends : status ≡ log_status answer
  pub text : Takes before now (log_answer_text name answer)

-- a front of a right answer, where there was one
abbrev pub IsCheckBegun : List File → List Question → List ℕ → List ℕ → Option (List ℕ) → Option (List ℕ) → Type 0
IsCheckBegun files questions name log before now =
    (text : List ℕ)
    × ((text ≡ [])
    ⊎ ((answer : LogAnswer) × IsLogAnswer files questions log answer × (text ≡ log_answer_text name answer)))
    × TakesPart before now text

-- the text of a right answer, and whether it is yes
abbrev pub IsLogLine : List File → List Question → List ℕ → List ℕ → Bool → List ℕ → Type 0
IsLogLine files questions name log said text =
    (answer : LogAnswer) × IsLogAnswer files questions log answer × (said ≡ is_yes answer)
    × (text ≡ log_answer_text name answer)
