use Rattle.std.proofs.Common.{◌+◌, ◌∙◌, ap, arith, rules, drop}
use Rattle.sym_policy.specs.Routes.{route_at}
use Rattle.route_shapes.specs.Shapes.{set_shapes}
use Rattle.sym_policy.proofs.SetLines.{set_shapes_more, set_shapes_end}
use Rattle.sym_policy.proofs.entries.set_lines.Goals as goal

pub loop-line-preserved : goal.loop-line-preserved
loop-line-preserved c =
    let step = c.in_ok-made-2.ensures in
    let left = drop (c.loop-line.line-index + 1) c.args.lines.now in
    record {
      builds = search rules;
      within = search rules;
      rows = search rules;
      value = λ w reads.
          ap (λ s. set_shapes c.args.tracked.now c.args.external s left) (step.value w reads)
          ∙ set_shapes_more c.args.tracked.now c.args.external
          (route_at w c.loop-line.made) c.args.lines.now c.loop-line.line-index c.line-item.result
          (omega arith) c.line-item.is
          ∙ c.loop-line.invariant.value w (step.builds.reads w reads);
    }

pub returns-clause-value : goal.returns-clause-value
returns-clause-value c = λ w reads.
    set_shapes_end c.args.tracked.now c.args.external
    (route_at w c.loop-line.made) c.args.lines.now c.loop-line.line-index (omega arith)
    ∙ c.loop-line.invariant.value w reads
