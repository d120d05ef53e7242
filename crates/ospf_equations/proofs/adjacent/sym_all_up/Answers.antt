use Rattle.std.proofs.Common.{rules, arith}
use Rattle.ospf_equations.proofs.ReachedSteps.{up_steps}
use Rattle.ospf_equations.proofs.adjacent.sym_all_up.Goals as goal

pub loop-a-preserved : goal.loop-a-preserved
loop-a-preserved c = record {
  builds = search rules;
  within =
      let put = c.in_ok-put_up.ensures in
      let larger = c.sym_both_up.ensures.builds.larger in
      let up = c.in_ok-up.ensures.within in
      let before = c.loop-a.invariant.within in
      grind (arith, up_steps, put, larger, up, before);
  value = λ w reads.
      let all = c.loop-a.invariant.value w (c.sym_both_up.ensures.builds.reads w reads) in
      let up = c.in_ok-up.ensures.value w reads in
      grind (arith, up_steps, all, up);
}
