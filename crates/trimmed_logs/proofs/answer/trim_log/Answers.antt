use Rattle.std.proofs.Common.{◌≡◌, ◌∙◌, sym, subst, length, arith, List, ℕ, None, ◌<◌}
use Rattle.trimmed_logs.specs.Answers.{IsAnswerTo, IsWithin}
use Rattle.trimmed_logs.specs.declared.answer.Answer.{Answer}
use Rattle.trimmed_logs.specs.Steps.{IsAppended}
use Rattle.trimmed_logs.proofs.Logged.{empty_of, logged_end, logged_more, logged_start, logged_wrong, none_left, within_end}
use Rattle.trimmed_logs.proofs.answer.trim_log.Goals as goal

pub loop-turn-init : goal.loop-turn-init
loop-turn-init c =
    (logged_start c.args.bytes.now c.new-text.result.items c.new-text.ensures.items, omega arith, omega arith)

pub returns-then-is_empty-clause-answers : goal.returns-then-is_empty-clause-answers
returns-then-is_empty-clause-answers c =
    let A : Answer → Type 0 = λ a. IsAnswerTo c.args.bytes.now a in
    subst A (sym c.ended.ensures)
    (logged_end c.args.bytes.now c.loop-turn.rest.now c.loop-turn.text.items c.loop-turn.lines c.loop-turn.invariant.0
    (empty_of c.loop-turn.rest.now (sym c.is_empty.ensures ∙ c.if-is_empty.true)))

pub returns-in-Some-clause-answers : goal.returns-in-Some-clause-answers
returns-in-Some-clause-answers c =
    logged_wrong c.args.bytes.now c.loop-turn.rest.now c.loop-turn.text.items c.loop-turn.lines
    c.in_ok-count.field-0.lines c.in-Some.cause c.loop-turn.invariant.0 (rw c.in-Some.is at c.in_ok-count.ensures.wrong)

pub loop-turn-preserved : goal.loop-turn-preserved
loop-turn-preserved c =
    let rest = c.loop-turn.rest.now in
    let more = c.split_at.result.1.now in
    let count = c.in_ok-count.field-0.lines in
    let right : c.in_ok-count.field-0.wrong ≡ None = c.in_default.is in
    let some : 0 < count = c.in_ok-count.ensures.some right in
    let few = c.in_ok-count.ensures.lines in
    let within = c.in_ok-count.ensures.used in
    let long = c.split_at.ensures.back_len in
    let turns = c.loop-turn.invariant.1 in
    let lines = c.loop-turn.invariant.2 in
    let A : List ℕ → Type 0 =
    λ left. IsAppended rest left count c.loop-turn.text.items c.trim_section.new.text.items in (
      logged_more c.args.bytes.now rest more c.loop-turn.text.items c.trim_section.new.text.items c.loop-turn.lines count
          c.loop-turn.invariant.0 (subst A (sym c.split_at.ensures.back) (c.in_ok-count.ensures.whole right)) some,
      omega (arith, some, few, within, long, turns),
      omega (arith, some, few, within, long, lines),
    )

pub returns-clause-answers : goal.returns-clause-answers
returns-clause-answers c =
    let A : Answer → Type 0 = λ a. IsAnswerTo c.args.bytes.now a in
    subst A (sym c.ended-2.ensures)
    (logged_end c.args.bytes.now c.loop-turn.rest.now c.loop-turn.text.items c.loop-turn.lines c.loop-turn.invariant.0
    (none_left c.loop-turn.rest.now c.loop-turn._turn (length c.args.bytes.now) c.loop-turn.invariant.1
    c.loop-turn-test.false))

pub returns-then-is_empty-clause-within : goal.returns-then-is_empty-clause-within
returns-then-is_empty-clause-within c =
    let A : Answer → Type 0 = λ a. IsWithin c.args.bytes.now a in
    subst A (sym c.ended.ensures) (within_end c.args.bytes.now c.loop-turn.lines c.loop-turn.text.items)

pub returns-in-Some-clause-within : goal.returns-in-Some-clause-within
returns-in-Some-clause-within c =
    let few = c.in_ok-count.ensures.lines in
    let within = c.in_ok-count.ensures.used in
    let lines = c.loop-turn.invariant.2 in
    omega (arith, few, within, lines)

pub returns-clause-within : goal.returns-clause-within
returns-clause-within c =
    let A : Answer → Type 0 = λ a. IsWithin c.args.bytes.now a in
    subst A (sym c.ended-2.ensures) (within_end c.args.bytes.now c.loop-turn.lines c.loop-turn.text.items)
