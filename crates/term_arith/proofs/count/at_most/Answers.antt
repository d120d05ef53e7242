use Rattle.std.proofs.Common.{rules, arith, ◌∙◌}
use Rattle.std.proofs.lemmas.Grind.{common_steps}
use Rattle.term_arith.proofs.CountLemmas.{tally-none, count_step, count_done}
use Rattle.term_arith.proofs.count.at_most.Goals as goal

pub loop-node-init : goal.loop-node-init
loop-node-init c =
    let yes = c.in_ok-yes.ensures in
    let no = c.in_ok-no.ensures in
    let row = c.in_ok-row.ensures in
    record {
      builds = search rules;
      within = search rules;
      yes_within = search rules;
      width = grind (arith, common_steps);
      yes_value = search rules;
      value = λ w reads. rw row.items (tally-none w _ 0 c.in_ok-no.no (no.value w reads));
    }

pub loop-node-preserved : goal.loop-node-preserved
loop-node-preserved c =
    let old = c.loop-node.invariant in
    let row = c.in_ok-row-2.ensures in
    record {
      builds = search rules;
      within = search rules;
      yes_within = search rules;
      width = grind (arith, common_steps);
      yes_value = search rules;
      value = λ w reads.
          let before = row.builds.reads w reads in
          row.value w reads
          ∙ rw c.as_slice.ensures
          (count_step w _ c.loop-node.row c.loop-node.node-index _ _ _ (omega arith) (old.yes_value w before)
          (old.value w before));
    }

pub returns-clause-value : goal.returns-clause-value
returns-clause-value c = λ w reads.
    let few = c.in_ok-few.ensures in
    let old = c.loop-node.invariant in
    few.value w reads
    ∙ rw c.as_slice-2.ensures
    (count_done w _ c.loop-node.row c.loop-node.node-index _ _ (omega arith) old.width
    (old.value w (few.builds.reads w reads)))
