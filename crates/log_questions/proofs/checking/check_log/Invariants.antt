use Rattle.std.proofs.Common.{drop}
use Rattle.log_answers.proofs.Sections.{Going}
use Rattle.log_questions.proofs.checking.check_log.Given as goal

-- the lines so far are sections of the questions so far
abbrev pub invariant-loop-question : goal.invariant-loop-question
invariant-loop-question l =
    Going l.net.files l.questions (drop l.question-index l.questions) l.log l.rest l.lines
