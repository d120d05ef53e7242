use Rattle.std.proofs.Common.{rules, arith}
use Rattle.sym_bgp.proofs.BestSteps.{best_one_more}
use Rattle.sym_bgp.proofs.numbers.best.Goals as goal

pub loop-i-preserved : goal.loop-i-preserved
loop-i-preserved c =
    let step = c.in_ok-rest-2.ensures in
    record {
      builds = search rules;
      within = search rules;
      width = search rules;
      value = λ w reads.
          best_one_more w c.args.step c.args.flags.now c.args.keys.now c.loop-i.i _ c.index-keys-i.result
          (omega arith) (omega arith) (omega arith) c.index-keys-i.is c.greater_wins-greater.ensures
          (c.compared-value.ensures.value w) (c.loop-i.invariant.value w (step.builds.reads w reads))
          (step.value w reads);
    }
