use Rattle.std.proofs.Common.{◌∙◌, arith}
use Rattle.config_lint.proofs.Cuts.{cuts_next}
use Rattle.config_lint.proofs.asides.cut_text.Goals as goal

pub loop-at-preserved : goal.loop-at-preserved
loop-at-preserved c =
    cuts_next c.args.lines.now c.args.flags.now c.loop-at.at c.loop-at.text c.put_cut.new.text _ _ (omega arith)
    (omega (arith, c.requires)) c.in_ok-put_cut.ensures ∙ c.loop-at.invariant
