use Rattle.route_record.specs.Sides.{at_external}
use Rattle.sym_policy.specs.MapRecs.{map_rec_at}
use Rattle.sym_policy.specs.Records.{prefix_of}
use Rattle.sym_policy.proofs.MapsApplied.{through_stands}
use Rattle.sym_policy.proofs.through.sym_through.Goals as goal

pub returns-clause-stands : goal.returns-clause-stands
returns-clause-stands c = λ w reads held all is.
    let grounds = c.args.grounds.now in
    through_stands grounds.tracked.now grounds.policies.now c.args.used.now
    (prefix_of w grounds.dst.now grounds.len)
    (at_external c.args.side) (map_rec_at w c.args.rec) (map_rec_at w c.in_ok-left.left) held all is
    (c.in_ok-left.ensures.value w reads)
