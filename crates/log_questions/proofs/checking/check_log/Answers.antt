use Rattle.std.proofs.Common.{◌≡◌, ◌+◌, ℕ, List, arith, drop, get_or, subst, sym}
use Rattle.log_answers.specs.declared.answer.LogAnswer.{LogAnswer}
use Rattle.log_answers.specs.Answers.{IsLogAnswer}
use Rattle.log_answers.proofs.Sections.{Going, going_end, going_first, going_more, going_wrong}
use Rattle.log_questions.proofs.checking.check_log.Goals as goal

pub loop-question-init : goal.loop-question-init
loop-question-init c = going_first c.args.net.now.files c.args.questions.now c.args.log.now

pub loop-question-preserved : goal.loop-question-preserved
loop-question-preserved c =
    let questions = c.args.questions.now in
    let i = c.loop-question.question-index in
    let item = c.question-item.is in
    let is : c.question-item.result ≡ get_or questions i c.question-item.result = cc in
    let checked = c.in_ok-checked.checked in
    let held = c.in_ok-checked.ensures in
    let split = c.split_at.ensures in
    let rest_is : c.split_at.result.1.now ≡ drop checked.used c.loop-question.rest.now = cc in
    let G : List ℕ → Type 0 = λ rest. Going c.args.net.now.files questions (drop (i + 1) questions) c.args.log.now rest
    (c.loop-question.lines + checked.lines) in
    subst G (sym rest_is)
    (going_more c.args.net.now.files questions c.args.log.now c.loop-question.rest.now c.loop-question.lines i
    c.question-item.result checked c.loop-question.invariant c.loop-question-test.true is held.held held.used held.lines
    c.in-None.is)

pub returns-in-Some : goal.returns-in-Some
returns-in-Some c =
    let questions = c.args.questions.now in
    let i = c.loop-question.question-index in
    let item = c.question-item.is in
    let is : c.question-item.result ≡ get_or questions i c.question-item.result = cc in
    let A : LogAnswer → Type 0 = IsLogAnswer c.args.net.now.files questions c.args.log.now in
    subst A (sym (rw c.in-Some.is at c.wrong_after.ensures))
    (going_wrong c.args.net.now.files questions c.args.log.now c.loop-question.rest.now c.loop-question.lines i
    c.question-item.result c.in_ok-checked.checked c.in-Some.cause c.loop-question.invariant c.loop-question-test.true is
    c.in_ok-checked.ensures.held c.in-Some.is)

pub returns : goal.returns
returns c =
    let A : LogAnswer → Type 0 = IsLogAnswer c.args.net.now.files c.args.questions.now c.args.log.now in
    subst A (sym c.ended.ensures)
    (going_end c.args.net.now.files c.args.questions.now c.args.log.now c.loop-question.rest.now c.loop-question.lines
    c.loop-question.question-index c.loop-question.invariant (omega (arith, c.loop-question-test.false)))
