use Rattle.std.proofs.Common.{◌≡◌, ◌∙◌, ap, arith, rules, drop}
use Rattle.sym_policy.specs.Order.{entries_of}
use Rattle.sym_policy.specs.Records.{prefix_of}
use Rattle.sym_policy.specs.Routes.{route_at}
use Rattle.route_shapes.specs.Shapes.{shape_after, shape_decided}
use Rattle.sym_policy.proofs.Decided.{decided_more}
use Rattle.sym_policy.proofs.decisions.sym_decided.Goals as goal

pub loop-i-preserved : goal.loop-i-preserved
loop-i-preserved c =
    let step = c.in_ok-rest-2.ensures in
    let grounds = c.args.grounds.now in
    let policies = grounds.policies.now in
    let tracked = grounds.tracked.now in
    let external = c.args.external in
    let entry = c.index-entries-i.result in
    record {
      builds = search rules;
      within = search rules;
      rows = search rules;
      value = λ w reads.
          let p = prefix_of w grounds.dst.now grounds.len in
          let route = route_at w c.args.route.now in
          step.value w reads
          ∙ ap (shape_after policies tracked p external route entry.now)
          (c.loop-i.invariant.value w (step.builds.reads w reads))
          ∙ decided_more policies tracked p external route c.args.entries.now c.loop-i.i entry (omega arith)
          (omega arith) c.index-entries-i.is;
    }

pub returns-clause-value : goal.returns-clause-value
returns-clause-value c = λ w reads.
    let grounds = c.args.grounds.now in
    let none : c.loop-i.i ≡ 0 = omega arith in
    c.loop-i.invariant.value w reads
    ∙ ap
    (λ j. shape_decided grounds.policies.now grounds.tracked.now (prefix_of w grounds.dst.now grounds.len)
    c.args.external (route_at w c.args.route.now) (entries_of (drop j c.args.entries.now)))
    none
