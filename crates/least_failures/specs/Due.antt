-- What is due for the words over the contents of files.
use Rattle.std.specs.Prelude.{◌≡◌, ℕ, List, [], Option, Some, None, IfSome, Result, Ok}
use Rattle.ios_ast.specs.declared.file.File.{File}
use Rattle.mw_outside.specs.Contents.{Contents}
use Rattle.mw_text.specs.Reading.{following}
use Rattle.question_lang.specs.declared.question.Question.{Question}
use Rattle.run_inputs.specs.Due.{Outcome, answering, either, questions_of, text_of, usage}
use Rattle.asked_files.specs.Network.{in_order as all_in_order, network_of}
use Rattle.asked_files.specs.Words.{Asking}
use Rattle.least_failures.specs.Words.{asked_of}

-- ---- the questions

-- those of the file of that name about the network of these files
abbrev pub questions_in : Contents → List ℕ → List File → Result (List Question) Outcome
questions_in contents name files = following (λ text. questions_of text files) (text_of contents name)

-- the network, and then the questions about it
abbrev pub files_due : Contents → Asking → Result Outcome Outcome
files_due contents asked =
    following (λ files. following (λ questions. Ok (answering files questions asked.budget))
    (questions_in contents asked.own files))
    (network_of contents asked.configs)

-- ---- the words

-- usage comes of words that are no command
abbrev pub due_by : Contents → Option Asking → Outcome
due_by contents None = usage
due_by contents (Some asked) = either (files_due contents asked)

-- what is due: usage where nothing is asked for, whatever the files hold; and where these are told, what they come to
pub record IsDueBy (told : Option Contents) (asking : Option Asking) (outcome : Outcome) : Type 0 where
  pub no_command : asking ≡ None → outcome ≡ usage
  pub by_contents : IfSome told (λ contents. due_by contents asking ≡ outcome)

abbrev pub IsDue : Option Contents → List (List ℕ) → Outcome → Type 0
IsDue told words outcome = IsDueBy told (asked_of words) outcome

-- the names of the files in the order in which they are read: the configurations, and then the questions
abbrev pub order_by : Option Asking → List (List ℕ)
order_by None = []
order_by (Some asked) = all_in_order asked

abbrev pub in_order : List (List ℕ) → List (List ℕ)
in_order words = order_by (asked_of words)
