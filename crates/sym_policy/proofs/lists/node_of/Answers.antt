use Rattle.std.proofs.Common.{◌∙◌, sym, arith}
use Rattle.sym_policy.proofs.Rows.{marked_next}
use Rattle.sym_policy.proofs.lists.node_of.Goals as goal

pub loop-i-preserved : goal.loop-i-preserved
loop-i-preserved c = λ w.
    sym (marked_next w c.args.tracked.now c.args.marks.now c.loop-i.i c.args.value (omega arith)
    (omega arith) c.if-tracked-i.false)
    ∙ c.loop-i.invariant w
