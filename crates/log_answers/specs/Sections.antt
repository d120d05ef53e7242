-- One section of a log against one question, and what the answer is where no section is left.
use Rattle.std.specs.Prelude.{◌≡◌, ℕ, ◌+◌, List, [], ◌∷◌, None, IfSome, drop}
use Rattle.resolution_check.specs.declared.log.Clause.{Clause}
use Rattle.ios_ast.specs.declared.file.File.{File}
use Rattle.log_checker.specs.declared.cause.Cause.{Cause}
use Rattle.log_checker.specs.declared.cause.Cause.TheVariants.{BadLine}
use Rattle.log_checker.specs.declared.sections.Checked.{Checked}
use Rattle.log_checker.specs.Sections.{IsShownBefore, IsWrongAfter}
use Rattle.question_lang.specs.declared.question.Question.{Question}
use Rattle.log_answers.specs.declared.answer.LogAnswer.{LogAnswer}
use Rattle.log_answers.specs.declared.answer.LogAnswer.TheVariants.{Yes, No}
use Rattle.log_answers.specs.Answers.{IsEncodedBy}

-- the bytes begin with a section of the question that is right, or with so many lines of one and then a wrong one, by
-- clauses that encode the question
pub record IsHeld (files : List File) (question : Question) (bytes : List ℕ) (checked : Checked) : Type 0 where
  pub clauses : List Clause
  pub encoded : IsEncodedBy files question clauses
  pub shown : checked.wrong ≡ None → IsShownBefore question.name clauses bytes checked.lines (drop checked.used bytes)
  pub wrong : IfSome checked.wrong (IsWrongAfter question.name clauses bytes checked.lines)

-- the answer where so many lines are right and this is wrong with the next
abbrev pub no_after : ℕ → Cause → LogAnswer
no_after lines cause = No (lines + 1) cause

-- the answer where so many lines are right, which are all sections, and these bytes are left
abbrev pub answer_at_end : ℕ → List ℕ → LogAnswer
answer_at_end lines [] = Yes
answer_at_end lines (b ∷ bs) = no_after lines BadLine
