use Rattle.std.proofs.Common.{false, ◌∙◌, ap}
use Rattle.std.specs.Option.{option_and_then, option_map}
use Rattle.sym_policy.specs.MapRecs.{attributes_at}
use Rattle.sym_policy.specs.Records.{prefix_of}
use Rattle.route_shapes.specs.Shapes.{shape_through_map}
use Rattle.term_store.specs.Terms.{at}
use Rattle.sym_rib.specs.Redistributed.{shape_external}
use Rattle.sym_rib.proofs.Redistribution.{made_of}
use Rattle.sym_rib.proofs.into_ospf.left_part.Goals as goal

pub returns-clause-value : goal.returns-clause-value
returns-clause-value c = λ w reads.
    let left = c.in_ok-left.ensures in
    let rec = c.in_ok-left.left in
    let p = prefix_of w c.args.dst.now c.args.len in
    made_of (at w rec.bgp.valid) (attributes_at w rec)
    ∙ ap (option_map shape_external) (left.value w reads
    ∙ ap (option_and_then (shape_through_map c.args.tracked.now c.args.file.now.policies c.args.line.now.map p false))
    (c.in_ok-seen.ensures.value w (left.builds.reads w reads)))
