use Rattle.std.proofs.Common.{ap}
use Rattle.route_record.specs.declared.BgpRec.{BgpRec}
use Rattle.path_rebuild.specs.Shapes.{route_of}
use Rattle.bgp_decoding.proofs.placing.copied.Goals as goal

pub returns : goal.returns
returns c tracked =
    ap (λ (r : BgpRec). route_of tracked (record { rec = r; shape = c.args.s.now.shape })) c.bare_route.ensures
