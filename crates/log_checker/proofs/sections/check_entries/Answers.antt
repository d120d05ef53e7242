use Rattle.std.proofs.Common.{subst, sym}
use Rattle.log_checker.specs.declared.cause.Cause.{Cause}
use Rattle.log_checker.specs.Sections.{IsWrongWithin}
use Rattle.log_checker.proofs.Fronts.{front_ended, front_more, front_unended, front_wrong}
use Rattle.log_checker.proofs.sections.check_entries.Goals as goal

pub returns-in_default-clause-wrong : goal.returns-in_default-clause-wrong
returns-in_default-clause-wrong c =
    let W : Cause → Type 0 = IsWrongWithin c.args.clauses.now c.args.bytes.now c.loop-lines.lines in
    subst W (sym c.unended.ensures)
    (front_unended c.args.clauses.now c.loop-lines.checker c.args.bytes.now c.loop-lines.rest.now c.loop-lines.lines
    c.loop-lines.invariant (c.first_line.ensures.none c.in_default.is))

pub returns-in-Ends-clause-ended : goal.returns-in-Ends-clause-ended
returns-in-Ends-clause-ended c =
    λ whole. front_ended c.args.clauses.now c.loop-lines.checker c.take_line.new.checker c.args.bytes.now
    c.loop-lines.rest.now c.in-Some.line.text.now c.in-Some.line.rest.now c.loop-lines.lines c.loop-lines.invariant
    c.in-Some.ensures.line (rw c.in-Ends.is at c.in_ok-take_line.ensures)

pub returns-in-Wrong-clause-wrong : goal.returns-in-Wrong-clause-wrong
returns-in-Wrong-clause-wrong c =
    front_wrong c.args.clauses.now c.loop-lines.checker c.take_line.new.checker c.args.bytes.now c.loop-lines.rest.now
    c.in-Some.line.text.now c.in-Some.line.rest.now c.loop-lines.lines c.loop-lines.invariant c.in-Some.ensures.line
    c.in-Wrong.cause c.in-Some.ensures.piece (rw c.in-Wrong.is at c.in_ok-take_line.ensures)

pub loop-lines-preserved : goal.loop-lines-preserved
loop-lines-preserved c =
    front_more c.args.clauses.now c.loop-lines.checker c.take_line.new.checker c.args.bytes.now c.loop-lines.rest.now
    c.in-Some.line.text.now c.in-Some.line.rest.now c.loop-lines.lines c.loop-lines.invariant c.in-Some.ensures.line
    (rw c.in-Goes.is at c.in_ok-take_line.ensures)
