use Rattle.std.proofs.Common.{rules, arith}
use Rattle.ospf_equations.proofs.AdjacentSteps.{read_steps}
use Rattle.ospf_equations.proofs.offers.with_offers.Goals as goal

pub loop-s-preserved : goal.loop-s-preserved
loop-s-preserved c = record {
  builds = search rules;
  within = search rules;
  value = λ w reads tracked real stand.
      let step = c.put_far.ensures in
      let put = c.in_ok-put_far.ensures.value w reads tracked real stand in
      let rest = c.loop-s.invariant.value w (step.builds.reads w reads) tracked real stand in
      grind (arith, read_steps, put, rest);
}

pub returns-clause-value : goal.returns-clause-value
returns-clause-value c = λ w reads tracked real stand.
    let all = c.loop-s.invariant.value w reads tracked real stand in
    grind (arith, read_steps, all)
