use Rattle.std.proofs.Common.{ℕ, Option, ◌∙◌, ap, sym}
use Rattle.std.specs.Option.{option_and_then}
use Rattle.ios_ast.specs.declared.ospf.Source.{Source}
use Rattle.net_parts.specs.Origins.{taken_metric}
use Rattle.sym_policy.specs.Records.{prefix_of}
use Rattle.sym_rib.proofs.metrics.sym_taken_metric.Goals as goal

pub returns-in_ok-made-in-Ospf-clause-value : goal.returns-in_ok-made-in-Ospf-clause-value
returns-in_ok-made-in-Ospf-clause-value c = λ w reads held ospf rib.
    let p = prefix_of w c.args.dst.now c.args.len in
    let line = c.args.line.now in
    let taken : Source → Option ℕ =
    λ from. option_and_then (λ e. taken_metric c.args.net.now.files c.args.router p held (record line { source = from })
    e.source) held.rib in
    c.in_ok-made-in-Ospf.ensures.value w reads held c.in-Ospf.field-0 ospf rib ∙ ap taken (sym c.in-Ospf.is)
