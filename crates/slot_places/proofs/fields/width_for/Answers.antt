use Rattle.std.proofs.Common.{◌≤◌, ◌^◌, ◌∙◌, sym, arith}
use Rattle.std.proofs.Math.Pow.{pow_mono}
use Rattle.slot_places.proofs.Widths.{width_more}
use Rattle.slot_places.proofs.fields.width_for.Goals as goal

pub loop-width-preserved : goal.loop-width-preserved
loop-width-preserved c =
    let under : c.loop-width.width ≤ 32 = omega (arith, c.loop-width-test.true) in
    let few : 2 ^ c.loop-width.width ≤ 2 ^ 32 = pow_mono under in
    sym (width_more c.args.number c.loop-width.width (omega (arith, c.loop-width-test.true))
    (omega (arith, few, c.if-number-width.false))) ∙ c.loop-width.invariant
