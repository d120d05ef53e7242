use Rattle.std.proofs.Common.{arith, rules}
use Rattle.sym_policy.specs.Held.{bgp_at}
use Rattle.sym_bgp.proofs.HeldSteps.{held_more}
use Rattle.sym_bgp.proofs.survives.any_held.Goals as goal

pub loop-i-preserved : goal.loop-i-preserved
loop-i-preserved c =
    let here = c.in_ok-here.ensures in
    let some = c.in_ok-any-2.ensures in
    record {
      builds = search rules;
      within = search rules;
      value = λ w reads.
          held_more w c.args.flags.now c.args.cands.now (bgp_at w c.args.held.now) c.loop-i.i _ c.index-cands-i.result
          (omega arith) (omega arith) c.index-cands-i.is _ _ _ _ (some.value w reads)
          (here.value w (some.builds.reads w reads))
          (c.loop-i.invariant.value w (here.builds.reads w (some.builds.reads w reads)));
    }
