use Rattle.std.proofs.Common.{ap, ◌∙◌}
use Rattle.sym_policy.specs.Held.{bgp_at}
use Rattle.announced_shapes.specs.Paths.{has_path_marks}
use Rattle.bgp_variables.proofs.AnnouncedSteps.{announced_is}
use Rattle.bgp_variables.proofs.announcements.sym_is_announced.Goals as goal

pub returns-clause-value : goal.returns-clause-value
returns-clause-value c = λ w reads.
    let r1 = c.both.ensures.builds.reads w reads in
    let r0 = c.sym_path_marks.ensures.builds.reads w r1 in
    let path = (bgp_at w c.args.s.now).path in
    c.in_ok-all.ensures.value w reads
    ∙ announced_is c.args.tracked.now c.args.asn (bgp_at w c.args.s.now) _ _ (c.in_ok-plain.ensures.value w r0)
    (c.in_ok-marks.ensures.value w r1 ∙ ap (λ ts. has_path_marks ts path) c.as_slice.ensures)
