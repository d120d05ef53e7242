use Rattle.clause_arena.specs.Compacted.{reason_renamed}
use Rattle.clause_arena.proofs.Reasons.{mapped_more}
use Rattle.clause_arena.proofs.compacting.rename_reasons.Goals as goal

pub loop-reason-preserved : goal.loop-reason-preserved
loop-reason-preserved c =
    let a = c.args in
    mapped_more (reason_renamed a.refs.now a.moved.now) a.reasons.now c.loop-reason.reasons c.loop-reason.reason-index
    c.rename_reason.result _ c.loop-reason-test.true c.loop-reason.auto.reasons c.loop-reason.invariant
    c.rename_reason.ensures
