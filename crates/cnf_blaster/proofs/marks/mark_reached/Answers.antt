use Rattle.std.proofs.Common.{arith}
use Rattle.cnf_blaster.specs.Laws.{marked}
use Rattle.term_store.specs.Reading.{Stands}
use Rattle.cnf_blaster.proofs.Steps.{marks-then, marks-else}
use Rattle.cnf_blaster.proofs.marks.mark_reached.Goals as goal

pub loop-number-preserved-then-marks-number : goal.loop-number-preserved-then-marks-number
unfolding Stands
loop-number-preserved-then-marks-number c =
    marks-then (marked c.args.marks.now)
    (marked c.loop-number.marks) _ c.args.terms.now.nodes _ c.loop-number.number c.get.result
    (omega arith) c.get.ensures.node c.loop-number.invariant c.if-marks-number.true c.mark_operands.ensures

pub loop-number-preserved : goal.loop-number-preserved
loop-number-preserved c =
    marks-else (marked c.args.marks.now) (marked c.loop-number.marks) c.args.terms.now.nodes _ c.loop-number.number
    (omega arith) (omega arith) c.loop-number.invariant c.if-marks-number.false
