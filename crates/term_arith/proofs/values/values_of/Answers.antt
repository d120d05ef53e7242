use Rattle.std.proofs.Common.{arith, sym}
use Rattle.std.proofs.lemmas.Grind.{common_steps}
use Rattle.term_store.proofs.Growth.{IsBelow-more}
use Rattle.term_arith.proofs.ValueLemmas.{values_of-take}
use Rattle.term_arith.proofs.values.values_of.Goals as goal

pub value_of_node-value-requires : goal.value_of_node-value-requires
value_of_node-value-requires c =
    rw c.as_slice.ensures (IsBelow-more _ _ _ _ c.get-node.result (omega arith) (omega arith) c.get-node.ensures.below)

pub loop-number-preserved : goal.loop-number-preserved
loop-number-preserved c = record {
  found =
      rw (
        c.in_ok-push.ensures.items,
        c.found.view_is,
        c.value_of_node-value.ensures,
        c.as_slice.ensures,
        c.loop-number.invariant.found,
      )
      (sym (values_of-take c.args.terms.now c.args.values.now c.loop-number.number c.get-node.result
      c.get-node.ensures.node));
  width = grind (arith, common_steps);
}
