use Rattle.std.proofs.Common.{rules, ap₂, ◌∙◌, ◌&&◌}
use Rattle.ospf_equations.proofs.least.sym_dearer.Goals as goal

pub loop-x-preserved : goal.loop-x-preserved
loop-x-preserved c = record {
  builds = search rules;
  within = search rules;
  value = λ w reads real stand size held.
      let before = c.both.ensures.builds.reads w reads in
      c.in_ok-all-2.ensures.value w reads
      ∙ ap₂ (λ a b. a && b)
      (c.loop-x.invariant.value w (c.sym_dearer_to.ensures.builds.reads w before) real stand size held)
      (c.in_ok-so.ensures.value w before real stand size held);
}
