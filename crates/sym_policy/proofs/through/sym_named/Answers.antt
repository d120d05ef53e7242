use Rattle.std.proofs.Common.{List, [], Option, ◌∙◌, ap}
use Rattle.std.proofs.lemmas.Result.{IfOk-weaker}
use Rattle.std.specs.Option.{option_and_then, option_map_or}
use Rattle.ios_ast.specs.declared.policies.MapEntry.{MapEntry}
use Rattle.ios_ast.specs.declared.policies.RouteMap.{RouteMap}
use Rattle.route_record.specs.Sides.{at_external}
use Rattle.sym_policy.specs.MapRecs.{map_rec_at}
use Rattle.sym_policy.specs.Records.{prefix_of}
use Rattle.route_shapes.specs.Shapes.{RouteShape, shape_mapped}
use Rattle.sym_policy.proofs.through.sym_named.Goals as goal

pub returns-in-Some-clause-value : goal.returns-in-Some-clause-value
returns-in-Some-clause-value c =
    let grounds = c.args.grounds.now in
    IfOk-weaker c.sym_route_map.result _ _ (λ left read. λ w reads.
    let p = prefix_of w grounds.dst.now grounds.len in
    let entries_of : Option RouteMap → List MapEntry = λ o. option_map_or (λ m. m.entries) o [] in
    let mapped : List MapEntry → Option RouteShape =
    λ entries. option_and_then (shape_mapped grounds.policies.now entries grounds.tracked.now p
    (at_external c.args.side)) (map_rec_at w c.args.rec) in
    read w reads ∙ ap mapped (ap entries_of c.in-Some.ensures)) c.sym_route_map.ensures.value
