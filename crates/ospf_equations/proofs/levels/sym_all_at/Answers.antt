use Rattle.std.proofs.Common.{rules, ap₂, ◌∙◌, ◌&&◌}
use Rattle.ospf_equations.proofs.levels.sym_all_at.Goals as goal

pub loop-most-preserved : goal.loop-most-preserved
loop-most-preserved c = record {
  builds = search rules;
  within = search rules;
  value = λ w reads tracked real stand best.
      let before = c.both.ensures.builds.reads w reads in
      c.in_ok-all-2.ensures.value w reads
      ∙ ap₂ (λ a b. a && b)
      (c.loop-most.invariant.value w (c.sym_at_cost.ensures.builds.reads w before) tracked real stand best)
      (c.in_ok-level.ensures.value w before tracked real stand best);
}
