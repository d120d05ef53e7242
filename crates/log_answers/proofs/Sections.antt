-- Sections of a log, one after another.
use Rattle.std.proofs.Common.{◌≡◌, ◌∙◌, refl, ap, sym, subst, arith, ℕ, zero, suc, ◌+◌, ◌<◌, ◌≤◌, true, false, List, [], ◌∷◌}
use Rattle.std.proofs.Common.{length, drop, get_or, inl, inr, None, Some}
use Rattle.std.specs.List.{AllByRecursion}
use Rattle.std.proofs.Math.ListN.{drop_of_length-le}
use Rattle.std.proofs.lemmas.List.{length-drop}
use Rattle.mw_text.proofs.Lists.{drop-read}
use Rattle.resolution_check.specs.declared.log.Clause.{Clause}
use Rattle.ios_ast.specs.declared.file.File.{File}
use Rattle.log_checker.specs.declared.cause.Cause.{Cause}
use Rattle.log_checker.specs.declared.sections.Checked.{Checked}
use Rattle.log_checker.specs.Sections.{IsShownBefore, IsWrongAfter}
use Rattle.log_checker.proofs.Exact.{never_both as never_both_here, one_rest}
use Rattle.log_checker.proofs.Refuting.{refuted_clauses}
use Rattle.question_lang.specs.Breaking.{IsUnbroken}
use Rattle.question_lang.specs.declared.question.Question.{Question}
use Rattle.log_answers.specs.declared.answer.LogAnswer.{LogAnswer}
use Rattle.log_answers.specs.declared.answer.LogAnswer.TheVariants.{Yes, No}
use Rattle.log_answers.specs.Answers.{AreEncodedBy, AreShown, AreWrongAfter, IsEncodedBy, IsLogAnswer}
use Rattle.log_answers.specs.Sections.{IsHeld, answer_at_end, no_after}

-- by the same clauses a log that is right is not wrong
pub never_both : (questions : List Question) (made : List (List Clause)) (log : List ℕ) (lines : ℕ) (cause : Cause) →
    AreShown questions made log → AreWrongAfter questions made log lines cause → ⊥
never_both [] [] log lines cause empty (none, some, is) = some empty
never_both [] (clauses ∷ others) log lines cause never wrong = never
never_both (question ∷ rest) [] log lines cause never wrong = never
never_both (question ∷ rest) (clauses ∷ others) log lines cause (first, after, shown, more) (inl wrong) =
    never_both_here question.name clauses log after first lines cause shown wrong
never_both (question ∷ rest) (clauses ∷ others) log lines cause (first, after, shown, more)
    (inr (same_first, same_more, same_after, also, count, wrong)) =
    let same : after ≡ same_after = one_rest question.name clauses log after same_after first same_first shown also in
    let S : List ℕ → Type 0 = AreShown rest others in
    never_both rest others same_after same_more cause (subst S same more) wrong

-- ---- an answer about what is left of a log

-- the answer about the sections of some questions, where so many lines stand before them
abbrev pub IsAnswerFrom : List File → List Question → ℕ → List ℕ → LogAnswer → Type 0
IsAnswerFrom files questions lines rest Yes =
    (made : List (List Clause)) × AreEncodedBy files questions made × AreShown questions made rest
    × AllByRecursion (IsUnbroken files) questions
IsAnswerFrom files questions lines rest (No line cause) =
    (made : List (List Clause)) × AreEncodedBy files questions made
    × ((more : ℕ) × (line ≡ lines + more + 1) × AreWrongAfter questions made rest more cause)

-- where none does
from_first : (files : List File) (questions : List Question) (log : List ℕ) (answer : LogAnswer) →
    IsAnswerFrom files questions 0 log answer → IsLogAnswer files questions log answer
from_first files questions log Yes (made, encoded, shown, unbroken) = (made, encoded, (shown, unbroken))
from_first files questions log (No line cause) (made, encoded, (more, is, wrong)) =
    (made, encoded, (more, omega (arith, is), wrong))

-- nothing breaks a question of which a section is right
unbroken_by : (files : List File) (question : Question) (clauses : List Clause) (bytes rest : List ℕ) (lines : ℕ) →
    IsEncodedBy files question clauses → IsShownBefore question.name clauses bytes lines rest →
    IsUnbroken files question
unbroken_by files question clauses bytes rest lines is
    (body, within, whole, count, (entries, refuting, many, parts)) world environment walk breaking =
    let some = is.encodes.1 (world, environment, walk, breaking) in
    let never = refuted_clauses clauses entries refuting some.0 in
    let clash : true ≡ false = sym some.1 ∙ never in absurd (cc)

-- with one section more that is right, before
from_next : (files : List File) (question : Question) (others : List Question) (clauses : List Clause)
    (lines first : ℕ) (bytes after : List ℕ) (answer : LogAnswer) → IsEncodedBy files question clauses →
    IsShownBefore question.name clauses bytes first after → IsAnswerFrom files others (lines + first) after answer →
    IsAnswerFrom files (question ∷ others) lines bytes answer
from_next files question others clauses lines first bytes after Yes is shown (made, encoded, all, unbroken) = (
  clauses ∷ made,
  (is, encoded),
  (first, after, shown, all),
  (unbroken_by files question clauses bytes after first is shown, unbroken),
)
from_next files question others clauses lines first bytes after (No line cause) is shown
    (made, encoded, (more, at, wrong)) = (
      clauses ∷ made,
      (is, encoded),
      (first + more, omega (arith, at), inr (first, more, after, shown, refl, wrong)),
    )

-- where the next section is wrong
from_wrong : (files : List File) (question : Question) (others : List Question) (clauses : List Clause)
    (lines more : ℕ) (bytes : List ℕ) (cause : Cause) → IsEncodedBy files question clauses →
    IsWrongAfter question.name clauses bytes more cause →
    IsAnswerFrom files (question ∷ others) lines bytes (no_after (lines + more) cause)
from_wrong files question others clauses lines more bytes cause is wrong =
    (clauses ∷ [], (is, tt), (more, refl, inl wrong))

-- where no question is left
from_end : (files : List File) (lines : ℕ) (rest : List ℕ) →
    IsAnswerFrom files [] lines rest (answer_at_end lines rest)
from_end files lines [] = ([], tt, refl, tt)
from_end files lines (b ∷ bs) = (
  [],
  tt,
  (
    0,
    omega arith,
    (refl, (λ none. let long : length (b ∷ bs) ≡ 0 = ap length none in absurd (omega (arith, long))), refl),
  ),
)

-- ---- how far a log is held

-- after so many lines these questions and these bytes are left, and an answer about them is one about the whole
pub record Going (files : List File) (questions left : List Question) (log rest : List ℕ) (lines : ℕ) : Type 0 where
  pub room : lines + length rest ≤ length log
  pub next : (answer : LogAnswer) → IsAnswerFrom files left lines rest answer → IsLogAnswer files questions log answer

pub going_first : (files : List File) (questions : List Question) (log : List ℕ) →
    Going files questions (drop 0 questions) log log 0
going_first files [] log = record { room = omega arith; next = from_first files [] log }
going_first files (question ∷ others) log = record {
  room = omega arith;
  next = from_first files (question ∷ others) log;
}

-- one section more is right
pub going_more : (files : List File) (questions : List Question) (log rest : List ℕ) (lines i : ℕ)
    (question : Question) (checked : Checked) → Going files questions (drop i questions) log rest lines →
    i < length questions → question ≡ get_or questions i question → IsHeld files question rest checked →
    checked.used ≤ length rest → checked.lines ≤ checked.used → checked.wrong ≡ None →
    Going files questions (drop (i + 1) questions) log (drop checked.used rest) (lines + checked.lines)
going_more files questions log rest lines i question checked going within is held used few whole =
    let room = going.room in
    let long : length (drop checked.used rest) + checked.used ≡ length rest = left rest checked.used used in record {
      room = omega (arith, room, long, few);
      next = λ answer from. let L : List Question → Type 0 = λ qs. IsAnswerFrom files qs lines rest answer in
          going.next answer
          (subst L (sym (drop-read questions i question within is))
          (from_next files question (drop (i + 1) questions) held.clauses lines checked.lines rest
          (drop checked.used rest) answer held.encoded (held.shown whole) from));
    }
  where
    left : (xs : List ℕ) (n : ℕ) → n ≤ length xs → length (drop n xs) + n ≡ length xs
    left xs n small = let all = length-drop n xs in omega (arith, all, small)

-- the next section is wrong
pub going_wrong : (files : List File) (questions : List Question) (log rest : List ℕ) (lines i : ℕ)
    (question : Question) (checked : Checked) (cause : Cause) →
    Going files questions (drop i questions) log rest lines → i < length questions →
    question ≡ get_or questions i question → IsHeld files question rest checked → checked.wrong ≡ Some cause →
    IsLogAnswer files questions log (no_after (lines + checked.lines) cause)
going_wrong files questions log rest lines i question checked cause going within is held some =
    let answer = no_after (lines + checked.lines) cause in
    let L : List Question → Type 0 = λ qs. IsAnswerFrom files qs lines rest answer in
    let wrong : IsWrongAfter question.name held.clauses rest checked.lines cause = rw some at held.wrong in
    going.next answer
    (subst L (sym (drop-read questions i question within is))
    (from_wrong files question (drop (i + 1) questions) held.clauses lines checked.lines rest cause held.encoded wrong))

-- no question is left
pub going_end : (files : List File) (questions : List Question) (log rest : List ℕ) (lines i : ℕ) →
    Going files questions (drop i questions) log rest lines → length questions ≤ i →
    IsLogAnswer files questions log (answer_at_end lines rest)
going_end files questions log rest lines i going done =
    let answer = answer_at_end lines rest in
    let L : List Question → Type 0 = λ qs. IsAnswerFrom files qs lines rest answer in
    going.next answer (subst L (sym (drop_of_length-le questions done)) (from_end files lines rest))
