use Rattle.std.proofs.Common.{rules, arith}
use Rattle.std.proofs.lemmas.Grind.{common_steps}
use Rattle.term_arith.proofs.NumberLemmas.{ids_end_push, constant_step, constant_done}
use Rattle.term_arith.proofs.constants.constant.Goals as goal

pub loop-i-preserved : goal.loop-i-preserved
loop-i-preserved c =
    let old = c.loop-i.invariant in
    let node = c.in_ok-node.ensures in
    record {
      builds = search rules;
      within = grind (arith, common_steps, ids_end_push);
      width = grind (arith, common_steps);
      value =
          λ w reads. rw c.in_ok-put.ensures
          (constant_step w c.loop-i.nodes _ c.loop-i.rest _ (node.value w reads)
          (old.value w (node.builds.reads w reads)));
    }

pub returns-clause-value : goal.returns-clause-value
returns-clause-value c =
    λ w reads. rw c.nodes-2.view_is
    (constant_done w c.loop-i.nodes c.args.width c.loop-i.rest _ (omega arith) c.requires.fits
    (c.loop-i.invariant.value w reads))
