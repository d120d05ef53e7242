use Rattle.std.proofs.Common.{◌∙◌, arith}
use Rattle.config_prepare.proofs.Steps.{rows_next}
use Rattle.config_prepare.proofs.report.rows_text.Goals as goal

pub loop-at-preserved : goal.loop-at-preserved
loop-at-preserved c =
    rows_next c.args.marks.now c.args.kinds.now c.loop-at.at c.loop-at.text-inside.items.items c.in_ok-row.row
    c.extend_from_slice.new.self.items _ (omega arith) c.in_ok-row.ensures
    (cc (c.in_ok-extend_from_slice.ensures.items, c.as_slice.ensures)) ∙ c.loop-at.invariant
