use Rattle.std.proofs.Common.{subst, sym, ap, ◌∙◌}
use Rattle.log_checker.specs.declared.cause.Cause.{Cause}
use Rattle.resolution_check.specs.Entries.{adds_empty}
use Rattle.trimmed_logs.specs.Steps.{WithinWrong}
use Rattle.trimmed_logs.proofs.Within.{going_ends, going_more, going_unended, going_wrong, whole_of}
use Rattle.trimmed_logs.proofs.sections.read_entries.Goals as goal

pub returns-in_default-clause-wrong : goal.returns-in_default-clause-wrong
returns-in_default-clause-wrong c =
    let W : Cause → Type 0 = WithinWrong c.args.bytes.now c.loop-lines.lines in
    subst W (sym c.unended.ensures)
    (going_unended c.loop-lines.checker c.loop-lines.order c.loop-lines.entries.items c.args.bytes.now
    c.loop-lines.rest.now c.loop-lines.lines c.loop-lines.invariant (c.first_line.ensures.none c.in_default.is))

pub returns-in-Ends-clause-ends : goal.returns-in-Ends-clause-ends
returns-in-Ends-clause-ends c = λ whole.
    going_ends c.loop-lines.checker c.loop-lines.order c.loop-lines.entries.items c.args.bytes.now
    c.loop-lines.rest.now c.in-Some.line.text.now c.in-Some.line.rest.now c.loop-lines.lines c.loop-lines.invariant
    c.in-Some.ensures.line c.in-Some.ensures.piece c.take_line.new.entries.items
    (rw c.in-Ends.is at c.in_ok-take_line.ensures.takes)

pub returns-in-Ends-clause-whole : goal.returns-in-Ends-clause-whole
returns-in-Ends-clause-whole c = λ whole.
    let takes = rw c.in-Ends.is at c.in_ok-take_line.ensures.takes in
    whole_of c.loop-lines.checker c.loop-lines.order c.take_line.new.entries.items
    (c.in_ok-take_line.ensures.stays c.in-Ends.is) (ap adds_empty takes.0 ∙ takes.1)

pub returns-in-Wrong-clause-wrong : goal.returns-in-Wrong-clause-wrong
returns-in-Wrong-clause-wrong c =
    going_wrong c.loop-lines.checker c.loop-lines.order c.loop-lines.entries.items c.args.bytes.now
    c.loop-lines.rest.now c.in-Some.line.text.now c.in-Some.line.rest.now c.loop-lines.lines c.loop-lines.invariant
    c.in-Some.ensures.line c.in-Some.ensures.piece c.take_line.new.entries.items c.in-Wrong.cause
    (rw c.in-Wrong.is at c.in_ok-take_line.ensures.takes)

pub loop-lines-preserved : goal.loop-lines-preserved
loop-lines-preserved c =
    going_more c.loop-lines.checker c.loop-lines.order c.loop-lines.entries.items c.args.bytes.now
    c.loop-lines.rest.now c.in-Some.line.text.now c.in-Some.line.rest.now c.loop-lines.lines c.loop-lines.invariant
    c.in-Some.ensures.line c.in-Some.ensures.piece c.take_line.new.checker c.take_line.new.order
    c.take_line.new.entries.items (rw c.in-Goes.is at c.in_ok-take_line.ensures.takes)
    (c.in_ok-take_line.ensures.held c.in-Goes.is)
