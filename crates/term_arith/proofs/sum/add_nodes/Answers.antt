use Rattle.std.proofs.Common.{rules, arith}
use Rattle.std.proofs.lemmas.Grind.{common_steps}
use Rattle.term_arith.proofs.NumberLemmas.{ids_end_push, add_step, add_done, add_fits, add_low, add_whole}
use Rattle.term_arith.proofs.sum.add_nodes.Goals as goal

pub loop-i-preserved : goal.loop-i-preserved
loop-i-preserved c =
    let old = c.loop-i.invariant in
    let sum = c.in_ok-sum.ensures in
    record {
      builds = search rules;
      within = grind (arith, common_steps, ids_end_push);
      carry_within = search rules;
      width = grind (arith, common_steps);
      value =
          λ w reads. rw c.in_ok-put.ensures
          (add_step w _ _ c.loop-i.out c.loop-i.i _ _ _ _ _ (omega arith) (omega arith) (sum.value w reads)
          (old.value w (sum.builds.reads w reads)));
    }

pub returns-clause-whole : goal.returns-clause-whole
returns-clause-whole c =
    λ w reads. add_whole w c.loop-i.out c.loop-i.carry _
    (add_done w c.args.a.now c.args.b.now c.loop-i.out c.loop-i.i _ _ (omega arith) (omega arith)
    (c.loop-i.invariant.value w reads))

pub returns-clause-fits : goal.returns-clause-fits
returns-clause-fits c =
    λ w reads. add_fits w c.loop-i.out c.loop-i.carry _ _ (omega arith)
    (add_done w c.args.a.now c.args.b.now c.loop-i.out c.loop-i.i _ _ (omega arith) (omega arith)
    (c.loop-i.invariant.value w reads))

pub returns-clause-low : goal.returns-clause-low
returns-clause-low c =
    λ w reads none. add_low w c.loop-i.out c.loop-i.carry _
    (add_done w c.args.a.now c.args.b.now c.loop-i.out c.loop-i.i _ _ (omega arith) (omega arith)
    (c.loop-i.invariant.value w reads)) none
