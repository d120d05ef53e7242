use Rattle.std.proofs.Common.{arith, ◌∙◌, ◌++◌, sym, ap}
use Rattle.cnf_blaster.specs.Laws.{marked, number_at}
use Rattle.term_store.specs.Reading.{Stands}
use Rattle.cnf_blaster.proofs.Steps.{nodes-then, clauses_below-else, over_from_below}
use Rattle.cnf_blaster.proofs.gates.put_nodes.Goals.{then-marks-number+in_ok-put_node, else-marks-number}
use Rattle.cnf_blaster.proofs.gates.put_nodes.Goals as goal

pub loop-number-preserved : goal.loop-number-preserved
unfolding Stands
loop-number-preserved c = λ var same. elim c.if-marks-number.branch [
  | then-marks-number+in_ok-put_node w ↦
      nodes-then (marked c.args.marks.now) var
      (number_at c.args.numbers.now) c.args.terms.now.nodes c.loop-number.number w.get.result c.args.clauses.now
      c.loop-number.clauses _ w.get.ensures.node w.if-marks-number.true
      (over_from_below _ _ _ w.get.result (omega arith) w.get.ensures.below) same (c.loop-number.invariant var same)
      (w.clauses-is ∙ w.in_ok-put_node.ensures)
  | else-marks-number w ↦ w.clauses-is ∙ c.loop-number.invariant var same
      ∙ ap (λ r. c.args.clauses.now ++ r)
      (sym (clauses_below-else
      (marked c.args.marks.now) var c.args.terms.now.nodes c.loop-number.number w.if-marks-number.false))
]
