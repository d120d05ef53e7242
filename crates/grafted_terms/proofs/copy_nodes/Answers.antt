use Rattle.std.proofs.Common.{rules, ◌≡◌, ◌++◌, ◌∷◌, [], ◌∙◌, ap}
use Rattle.term_store.specs.Terms.{at, gate, reading_by}
use Rattle.term_arith.specs.Bits.{bits}
use Rattle.grafted_terms.proofs.Copies.{copies_more, row_steps}
use Rattle.grafted_terms.proofs.copy_nodes.Goals as goal

-- src/lib.rt:79:5
pub loop-number-preserved : goal.loop-number-preserved
loop-number-preserved c = record {
  grows = search rules;
  vars = search rules;
  within = search (rules, row_steps);
  length = search (rules, row_steps);
  value = λ w reads.
      let put : c.put.new.nodes ≡ c.loop-number.copies ++ c.in_ok-copy.copy ∷ [] = search rules in
      let given = c.in_ok-copy.ensures.value w reads in
      let value : at w c.in_ok-copy.copy
      ≡ gate (reading_by (bits w c.args.variables.now) (bits w c.loop-number.copies)) c.get-node.result = cc in
      ap (bits w) put
      ∙ copies_more w c.loop-number.copies c.in_ok-copy.copy c.args.from.now c.loop-number.number c.get-node.result
      (bits w c.args.variables.now) c.get-node.ensures.node
      (c.loop-number.invariant.value w (c.put_copy.ensures.grows.reads w reads))
      value;
}
