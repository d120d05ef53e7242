use Rattle.std.proofs.Common.{rules, ap₂, ◌∙◌, ◌&&◌}
use Rattle.ospf_equations.proofs.levels.sym_ordered.Goals as goal

pub loop-at-preserved : goal.loop-at-preserved
loop-at-preserved c = record {
  builds = search rules;
  within = search rules;
  value = λ w reads.
      let before = c.both.ensures.builds.reads w reads in
      c.in_ok-all-2.ensures.value w reads
      ∙ ap₂ (λ a b. a && b) (c.loop-at.invariant.value w (c.sym_wider.ensures.builds.reads w before))
      (c.in_ok-step.ensures.value w before);
}
