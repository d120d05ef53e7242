use Rattle.std.proofs.Common.{◌∙◌, ap, sym}
use Rattle.std.proofs.Common.{Err}
use Rattle.trimmed_logs.proofs.Stepping.{bad_never, goes, goes_wrong, no_line}
use Rattle.trimmed_logs.proofs.sections.take_line.Goals as goal

pub returns-in-None-clause-takes : goal.returns-in-None-clause-takes
returns-in-None-clause-takes c =
    let found = c.in-Ok.ensures.found in
    goes c.args.entries.now.items c.args.line.now c.in-Ok.entry found.1 found.0 c.take_entry.new.entries.items
    (sym c.is_end.ensures ∙ c.if-is_end.false)
    (rw c.in-None.is at c.in_ok-take_entry-in-Ok.ensures.takes)

pub returns-in-Some-clause-takes : goal.returns-in-Some-clause-takes
returns-in-Some-clause-takes c =
    let found = c.in-Ok.ensures.found in
    goes_wrong c.args.entries.now.items c.args.line.now c.in-Ok.entry found.1 found.0 c.take_entry.new.entries.items
    c.in-Some.cause (sym c.is_end.ensures ∙ c.if-is_end.false)
    (rw c.in-Some.is at c.in_ok-take_entry-in-Ok.ensures.takes)

pub returns-in-Err-BadLine-clause-takes : goal.returns-in-Err-BadLine-clause-takes
returns-in-Err-BadLine-clause-takes c =
    no_line c.args.entries.now.items c.args.line.now c.args.entries.now.items
    (bad_never c.args.line.now c.read_entry.result (c.in-Err-BadLine.is ∙ ap Err c.in-Err-BadLine.field-0-is)
    c.read_entry.ensures.exact)
