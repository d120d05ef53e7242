use Rattle.std.proofs.Common.{◌∙◌, if◌then◌else◌, None, ap}
use Rattle.std.specs.Option.{option_and_then}
use Rattle.term_store.specs.Terms.{at}
use Rattle.route_record.specs.Sides.{at_external}
use Rattle.route_shapes.proofs.ShapeLaw.{shape_mapped-route_shape}
use Rattle.sym_policy.specs.MapRecs.{attributes_at}
use Rattle.sym_policy.specs.Records.{prefix_of}
use Rattle.route_shapes.specs.Shapes.{shape_mapped}
use Rattle.sym_policy.proofs.Choices.{mapped_there}
use Rattle.sym_policy.proofs.maps.sym_route_map.Goals as goal

pub returns-clause-value : goal.returns-clause-value
returns-clause-value c = λ w reads.
    let before = c.in_ok-left.ensures.builds.reads w reads in
    let rec = c.args.rec.now in
    let map = shape_mapped c.args.policies.now c.args.map.now.entries c.args.tracked.now
    (prefix_of w c.args.dst.now c.args.len) in
    c.in_ok-left.ensures.made.value w reads
    ∙ ap (λ m. if at w rec.bgp.valid then m else None)
    (c.in_ok-made.ensures.value w before
    ∙ ap (λ e. map e (attributes_at w rec)) c.is_external-external.ensures)
    ∙ mapped_there (at w rec.bgp.valid) (attributes_at w rec) (map (at_external c.args.side))

pub returns-clause-stands : goal.returns-clause-stands
returns-clause-stands c = λ w reads r tracked stands.
    let map = shape_mapped c.args.policies.now c.args.map.now.entries c.args.tracked.now
    (prefix_of w c.args.dst.now c.args.len) (at_external c.args.side) in
    returns-clause-value c w reads ∙ ap (option_and_then map) stands
    ∙ shape_mapped-route_shape c.args.policies.now c.args.map.now.entries c.args.tracked.now
    (prefix_of w c.args.dst.now c.args.len) (at_external c.args.side) r tracked
