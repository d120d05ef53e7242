use Rattle.std.proofs.Common.{◌≡◌, List, subst, sym}
use Rattle.resolution_check.specs.declared.log.Clause.{Clause}
use Rattle.log_answers.specs.Answers.{IsEncodedBy}
use Rattle.log_questions.proofs.Held.{held_by}
use Rattle.log_questions.proofs.checking.check_question.Goals as goal

pub returns-clause-held : goal.returns-clause-held
returns-clause-held c =
    let view = c.clauses.view_is in
    let name = c.as_slice.ensures in
    let all = c.as_slice-2.ensures in
    let name_is : c.as_slice.result.now ≡ c.args.question.now.name = cc in
    let is : c.as_slice-2.result.now ≡ c.in_ok-clauses.clauses = cc in
    let E : List Clause → Type 0 = IsEncodedBy c.args.net.now.files c.args.question.now in
    held_by c.args.net.now.files c.args.question.now c.as_slice.result.now c.as_slice-2.result.now c.args.bytes.now
    c.check_section.result name_is (subst E (sym is) c.in_ok-clauses.ensures) c.check_section.ensures.shown
    c.check_section.ensures.wrong
