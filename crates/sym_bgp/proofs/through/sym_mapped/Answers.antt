use Rattle.route_record.specs.Sides.{at_external}
use Rattle.route_shapes.specs.Shapes.{shape_through_map}
use Rattle.sym_policy.specs.Records.{prefix_of}
use Rattle.sym_policy.proofs.SameNodes.{bgp_within}
use Rattle.sym_bgp.proofs.JoinedRoutes.{mapped_route}
use Rattle.sym_bgp.proofs.through.sym_mapped.Goals as goal

pub returns-clause-within : goal.returns-clause-within
returns-clause-within c = bgp_within c.in_ok-left.left _ c.in_ok-left.ensures.within

pub returns-clause-value : goal.returns-clause-value
returns-clause-value c = λ w reads plain.
    let by = c.args.by.now in
    let left = c.in_ok-left.ensures in
    mapped_route w c.args.rec c.in_ok-left.left
    (shape_through_map by.tracked.now by.policies.now c.args.used.now
    (prefix_of w by.dst.now by.len) (at_external c.args.side)) left.rest plain (left.value w reads)
