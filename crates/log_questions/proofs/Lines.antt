-- The line of an answer about a log, and what stands of it.
use Rattle.std.proofs.Common.{◌≡◌, ◌∙◌, refl, sym, subst, inl, inr, ℕ, Bool, true, false, List, [], Option}
use Rattle.std.proofs.lemmas.Bool.{false≢true}
use Rattle.mw_outside.specs.Taken.{Takes, TakesPart, part_of_none}
use Rattle.ios_ast.specs.declared.file.File.{File}
use Rattle.log_answers.specs.declared.answer.LogAnswer.{LogAnswer}
use Rattle.log_answers.specs.declared.answer.LogAnswer.TheVariants.{Yes, No}
use Rattle.log_answers.specs.Answers.{is_yes}
use Rattle.question_lang.specs.declared.question.Question.{Question}
use Rattle.run_answers.specs.declared.status.Status.TheVariants.{Good, Bad}
use Rattle.run_answers.specs.Checks.{IsCheckBegun, IsCheckedSo, IsLogLine, log_status}

status_yes : (answer : LogAnswer) → true ≡ is_yes answer → Good ≡ log_status answer
status_yes Yes is = refl
status_yes (No line cause) is = absurd (false≢true (sym is))

status_no : (answer : LogAnswer) → false ≡ is_yes answer → Bad ≡ log_status answer
status_no Yes is = absurd (false≢true is)
status_no (No line cause) is = refl

-- the line stands
pub checked_yes : (files : List File) (questions : List Question) (name log : List ℕ) (said : Bool) (text : List ℕ)
    (before now : Option (List ℕ)) → IsLogLine files questions name log said text → said ≡ true →
    Takes before now text → IsCheckedSo files questions name log Good before now
checked_yes files questions name log said text before now (answer, right, told, is) whole takes =
    let T : List ℕ → Type 0 = Takes before now in
    record { answer = answer; right = right; ends = status_yes answer (sym whole ∙ told); text = subst T is takes }

pub checked_no : (files : List File) (questions : List Question) (name log : List ℕ) (said : Bool) (text : List ℕ)
    (before now : Option (List ℕ)) → IsLogLine files questions name log said text → said ≡ false →
    Takes before now text → IsCheckedSo files questions name log Bad before now
checked_no files questions name log said text before now (answer, right, told, is) wrong takes =
    let T : List ℕ → Type 0 = Takes before now in
    record { answer = answer; right = right; ends = status_no answer (sym wrong ∙ told); text = subst T is takes }

-- a front of the line stands
pub checked_cut : (files : List File) (questions : List Question) (name log : List ℕ) (said : Bool) (text : List ℕ)
    (before now : Option (List ℕ)) → IsLogLine files questions name log said text → TakesPart before now text →
    IsCheckBegun files questions name log before now
checked_cut files questions name log said text before now (answer, right, told, is) part =
    (text, inr (answer, right, is), part)

-- nothing does
pub checked_none : (files : List File) (questions : List Question) (name log : List ℕ) (taken : Option (List ℕ)) →
    IsCheckBegun files questions name log taken taken
checked_none files questions name log taken = ([], inl refl, part_of_none taken [])
