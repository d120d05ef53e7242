use Rattle.std.proofs.Common.{◌∙◌, arith, rules}
use Rattle.std.specs.List.{list_any}
use Rattle.net_parts.specs.Exports.{is_metric}
use Rattle.route_shapes.specs.Shapes.{shape_route_taken}
use Rattle.sym_policy.specs.Records.{prefix_of}
use Rattle.sym_policy.specs.Routes.{route_at}
use Rattle.sym_bgp.proofs.MetricSteps.{metric_end, metric_more}
use Rattle.sym_bgp.proofs.metrics.sym_entries_set.Goals as goal

pub loop-i-init : goal.loop-i-init
loop-i-init c =
    let by = c.args.by.now in
    record {
      builds = search rules;
      within = search rules;
      value = λ w reads.
          c.in_ok-rest.ensures.value w reads
          ∙ metric_end (shape_route_taken by.policies.now by.tracked.now
          (prefix_of w by.dst.now by.len) (route_at w c.args.route.now)) (λ e. list_any is_metric e.sets)
          c.args.entries.now;
    }

pub loop-i-preserved : goal.loop-i-preserved
loop-i-preserved c =
    let by = c.args.by.now in
    let step = c.in_ok-rest-2.ensures in
    record {
      builds = search rules;
      within = search rules;
      value = λ w reads.
          metric_more (shape_route_taken by.policies.now by.tracked.now
          (prefix_of w by.dst.now by.len) (route_at w c.args.route.now)) (λ e. list_any is_metric e.sets)
          c.args.entries.now c.loop-i.i c.index-entries-i.result _ _ (omega arith) (omega arith) c.index-entries-i.is
          (c.loop-i.invariant.value w (step.builds.reads w reads)) (step.value w reads);
    }
