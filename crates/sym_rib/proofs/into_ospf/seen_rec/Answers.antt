use Rattle.std.proofs.Common.{Option, ◌∙◌, ap, sym}
use Rattle.std.proofs.lemmas.Result.{IfOk-weaker}
use Rattle.ios_ast.specs.declared.ospf.Source.{Source}
use Rattle.sym_policy.specs.Held.{bgp_of}
use Rattle.route_shapes.specs.Shapes.{RouteShape}
use Rattle.sym_rib.specs.Redistributed.{shape_seen}
use Rattle.sym_rib.proofs.into_ospf.seen_rec.Goals as goal

pub returns-in-Bgp-clause-value : goal.returns-in-Bgp-clause-value
returns-in-Bgp-clause-value c =
    IfOk-weaker c.bgp_rec.result _ _ (λ rec seen. λ w reads.
    let of_source : Source → Option RouteShape =
    λ s. shape_seen c.args.tracked.now (record c.args.line.now { source = s }) (bgp_of w c.args.bgp.now) in
    seen w reads ∙ ap of_source (sym c.in-Bgp.is)) c.bgp_rec.ensures.value
