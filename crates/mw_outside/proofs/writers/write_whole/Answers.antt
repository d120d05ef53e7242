use Rattle.std.proofs.Common.{arith, length-drop}
use Rattle.mw_outside.proofs.Writing.{takes_next}
use Rattle.mw_outside.proofs.writers.write_whole.Goals as goal

pub loop-preserved : goal.loop-preserved
loop-preserved g c = (
  omega (arith, c.in_ok-count.ensures.within, length-drop c.loop.count c.args.bytes.now, c.loop.invariant.0),
  takes_next _ _ _ c.args.bytes.now c.loop.count c.in_ok-count.field-0 c.loop.invariant.1 c.in_ok-count.ensures.takes,
)
