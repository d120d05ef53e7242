use Rattle.std.proofs.Common.{◌∙◌, ◌<◌, length, subst, sym}
use Rattle.export_asks.specs.declared.tracing.Next.TheVariants.{Ends, Goes}
use Rattle.export_asks.proofs.Traces.{trace_step}
use Rattle.export_asks.proofs.tracing.trace.Goals as goal

pub returns-in-Ends : goal.returns-in-Ends
returns-in-Ends c =
    let more = subst (λ files. c.loop-seen._seen < length files) c.routers-seen-end.ensures.all c.loop-seen-test.true in
    sym (c.loop-seen.invariant ∙ trace_step c.args.net.now.files c.args.tables.now c.args.len c.loop-seen._seen
    c.loop-seen.at (Ends c.in-Ends.peer) more c.in-Ends.ensures)

pub loop-seen-preserved : goal.loop-seen-preserved
loop-seen-preserved c =
    let more = subst (λ files. c.loop-seen._seen < length files) c.routers-seen-end.ensures.all c.loop-seen-test.true in
    c.loop-seen.invariant ∙ trace_step c.args.net.now.files c.args.tables.now c.args.len c.loop-seen._seen
    c.loop-seen.at (Goes c.in-Goes.next) more c.in-Goes.ensures
