-- What comes of the words and of the files.
use Rattle.std.proofs.Common.{◌≡◌, ◌∙◌, ℕ, ◌<◌, List, [], ◌∷◌, ◌++◌, length, ap, subst, arith}
use Rattle.std.proofs.Common.{Option, Some, Result, Ok, Err}
use Rattle.std.specs.Prelude.{IfSome}
use Rattle.std.proofs.lemmas.List.{length-append}
use Rattle.ios_ast.specs.declared.file.File.{File}
use Rattle.log_trim.specs.Running.{NoReadFailed, Reads}
use Rattle.mw_load.specs.Loading.{StopsAt}
use Rattle.mw_outside.specs.Contents.{Contents}
use Rattle.mw_outside.specs.Faults.{Rose}
use Rattle.mw_text.specs.Reading.{following}
use Rattle.mw_text.proofs.Found.{if_told, if_told_one}
use Rattle.question_lang.specs.declared.question.Question.{Question}
use Rattle.run_inputs.specs.declared.load.Loaded.{Loaded}
use Rattle.run_inputs.specs.declared.load.Stop.{Stop}
use Rattle.run_inputs.specs.declared.load.Stop.TheVariants as stop
use Rattle.run_inputs.specs.declared.text.Text.{Text}
use Rattle.run_inputs.specs.Due.{Outcome, answering, either, questions_of, refused, text_of}
use Rattle.run_inputs.specs.Loading.{OnStop, UnlessReadFault}
use Rattle.asked_files.specs.Network.{network_of}
use Rattle.asked_files.specs.Words.{Asking}
use Rattle.least_failures.specs.Due.{IsDueBy, files_due, order_by, questions_in}
use Rattle.least_failures.specs.Loading.{IsReady, WorksBy}

-- ---- the questions

pub questions_read : (told : Option Contents) (name : List ℕ) (files : List File) (text : Text) (questions : List Question) →
    IfSome told (λ contents. text_of contents name ≡ Ok text) → questions_of text files ≡ Ok questions →
    IfSome told (λ contents. questions_in contents name files ≡ Ok questions)
questions_read told name files text questions read is =
    if_told_one told (λ contents. text_of contents name ≡ Ok text) _ read
    (λ contents there. ap (following (λ t. questions_of t files)) there ∙ is)

pub questions_refused : (told : Option Contents) (name : List ℕ) (files : List File) (text : Text) (line : List ℕ) →
    IfSome told (λ contents. text_of contents name ≡ Ok text) → questions_of text files ≡ Err (refused line) →
    IfSome told (λ contents. questions_in contents name files ≡ Err (refused line))
questions_refused told name files text line read is =
    if_told_one told (λ contents. text_of contents name ≡ Ok text) _ read
    (λ contents there. ap (following (λ t. questions_of t files)) there ∙ is)

pub text_refused : (told : Option Contents) (name : List ℕ) (files : List File) (line : List ℕ) →
    IfSome told (λ contents. text_of contents name ≡ Err (refused line)) →
    IfSome told (λ contents. questions_in contents name files ≡ Err (refused line))
text_refused told name files line stopped =
    if_told_one told (λ contents. text_of contents name ≡ Err (refused line)) _ stopped
    (λ contents there. ap (following (λ t. questions_of t files)) there)

-- ---- both

pub files_read : (told : Option Contents) (asking : Asking) (files : List File) (questions : List Question) →
    IfSome told (λ contents. network_of contents asking.configs ≡ Ok files) →
    IfSome told (λ contents. questions_in contents asking.own files ≡ Ok questions) →
    IfSome told (λ contents. files_due contents asking ≡ Ok (answering files questions asking.budget))
files_read told asking files questions network asked =
    if_told told (λ contents. network_of contents asking.configs ≡ Ok files)
    (λ contents. questions_in contents asking.own files ≡ Ok questions) _ network asked
    (λ contents is too.
    ap (following (λ fs. following (λ qs. Ok (answering fs qs asking.budget)) (questions_in contents asking.own fs)))
    is
    ∙ ap (following (λ qs. Ok (answering files qs asking.budget))) too)

pub network_stopped : (told : Option Contents) (asking : Asking) (line : List ℕ) →
    IfSome told (λ contents. network_of contents asking.configs ≡ Err (refused line)) →
    IfSome told (λ contents. files_due contents asking ≡ Err (refused line))
network_stopped told asking line network =
    if_told_one told (λ contents. network_of contents asking.configs ≡ Err (refused line)) _ network
    (λ contents is.
    ap (following (λ fs. following (λ qs. Ok (answering fs qs asking.budget)) (questions_in contents asking.own fs)))
    is)

pub questions_stopped : (told : Option Contents) (asking : Asking) (files : List File) (line : List ℕ) →
    IfSome told (λ contents. network_of contents asking.configs ≡ Ok files) →
    IfSome told (λ contents. questions_in contents asking.own files ≡ Err (refused line)) →
    IfSome told (λ contents. files_due contents asking ≡ Err (refused line))
questions_stopped told asking files line network asked =
    if_told told (λ contents. network_of contents asking.configs ≡ Ok files)
    (λ contents. questions_in contents asking.own files ≡ Err (refused line)) _ network asked
    (λ contents is too.
    ap (following (λ fs. following (λ qs. Ok (answering fs qs asking.budget)) (questions_in contents asking.own fs)))
    is
    ∙ ap (following (λ qs. Ok (answering files qs asking.budget))) too)

-- ---- what comes of what is asked for

due_said : (told : Option Contents) (asking : Asking) (result : Result Outcome Outcome) →
    IfSome told (λ contents. files_due contents asking ≡ result) → IsDueBy told (Some asking) (either result)
due_said told asking result said = record {
  no_command = λ none. absurd cc;
  by_contents = if_told_one told (λ contents. files_due contents asking ≡ result) _ said (λ contents is. ap either is);
}

pub work_read : (told : Option Contents) (asking : Asking) (r : Reads) (loaded : Loaded) → NoReadFailed r →
    IfSome told (λ contents. files_due contents asking
    ≡ Ok (answering loaded.net.files loaded.questions loaded.budget)) → IsReady loaded →
    WorksBy told (Some asking) r (Ok (Some loaded))
work_read told asking r loaded quiet said ready = (
  quiet,
  due_said told asking (Ok (answering loaded.net.files loaded.questions loaded.budget)) said,
  ready,
)

some_name : (names : List (List ℕ)) (name : List ℕ) → 0 < length (names ++ name ∷ [])
some_name names name = let len = length-append names (name ∷ []) in omega (arith, len)

pub work_stopped : (told : Option Contents) (asking : Asking) (r : Reads) (why : Stop) →
    UnlessReadFault {A = Loaded} (Err why) (r.faults_now ≡ r.faults) →
    UnlessReadFault {A = Loaded} (Err why) (r.last_now ≡ r.last) →
    OnStop why (λ line. IfSome told (λ contents. files_due contents asking ≡ Err (refused line)))
    (Rose r.faults r.faults_now × StopsAt told (order_by (Some asking)) r.last_now) →
    WorksBy told (Some asking) r (Err why)
work_stopped told asking r (stop.Refused line) quiet stays said =
    ((quiet, stays), due_said told asking (Err (refused line)) said)
work_stopped told asking r stop.ReadFault quiet stays said =
    (said.0, some_name asking.configs asking.own, said.1)
work_stopped told asking r stop.Memory quiet stays said = (quiet, stays)

-- of the words
pub work_for : (told : Option Contents) (here words : Option Asking) (r : Reads) (result : Result (Option Loaded) Stop) →
    here ≡ words → WorksBy told here r result → WorksBy told words r result
work_for told here words r result is so =
    let W : Option Asking → Type 0 = λ a. WorksBy told a r result in subst W is so
