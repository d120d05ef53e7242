use Rattle.std.proofs.Common.{◌∙◌, arith}
use Rattle.config_prepare.proofs.Steps.{lines_next}
use Rattle.config_prepare.proofs.text.text_of.Goals as goal

pub loop-at-preserved : goal.loop-at-preserved
loop-at-preserved c =
    lines_next c.args.lines.now c.args.marks.now c.loop-at.at c.loop-at.text c.put_line.new.text _ _ (omega arith)
    (omega (arith, c.requires)) c.in_ok-put_line.ensures ∙ c.loop-at.invariant
