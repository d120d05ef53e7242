use Rattle.std.proofs.Common.{Option, ◌∙◌, ap, sym}
use Rattle.std.proofs.lemmas.Result.{IfOk-weaker}
use Rattle.std.specs.Option.{option_and_then}
use Rattle.ios_ast.specs.declared.file.Use.{Use}
use Rattle.route_record.specs.Sides.{at_external}
use Rattle.sym_policy.specs.MapRecs.{map_rec_at}
use Rattle.sym_policy.specs.Records.{prefix_of}
use Rattle.route_shapes.specs.Shapes.{RouteShape, shape_through_map}
use Rattle.sym_policy.proofs.through.applied.Goals as goal

pub returns-in-Some-clause-value : goal.returns-in-Some-clause-value
returns-in-Some-clause-value c =
    let grounds = c.args.grounds.now in
    IfOk-weaker c.sym_named.result _ _ (λ left read. λ w reads.
    let of_use : Option Use → Option RouteShape =
    λ used. option_and_then (shape_through_map grounds.tracked.now grounds.policies.now used
    (prefix_of w grounds.dst.now grounds.len) (at_external c.args.side)) (map_rec_at w c.args.rec) in
    read w reads ∙ ap of_use (sym c.in-Some.is)) c.sym_named.ensures.value
