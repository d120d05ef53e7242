use Rattle.std.proofs.Common.{◌∙◌}
use Rattle.bgp_decoding.proofs.Opened.{lens_short}
use Rattle.bgp_decoding.proofs.decoding.routing_at.Goals as goal

pub outside_at-requires-clause-few : goal.outside_at-requires-clause-few
outside_at-requires-clause-few c =
    lens_short c.args.assignment.now.plan.now c.as_slice.result.now (c.as_slice.ensures.value ∙ c.in_ok-frame.ensures.lens)
