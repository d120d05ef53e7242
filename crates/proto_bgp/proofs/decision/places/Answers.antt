use Rattle.std.proofs.Common.{arith}
use Rattle.proto_bgp.proofs.StepLaws.{are_more, place_more}
use Rattle.proto_bgp.proofs.decision.places.Goals as goal

pub loop-at-preserved : goal.loop-at-preserved
loop-at-preserved c = record {
  every = rw c.in_ok-push.ensures.items
      (place_more c.args.candidates.now c.loop-at.all.items c.loop-at.at (omega arith) c.loop-at.invariant.every);
  are = rw c.in_ok-push.ensures.items (are_more c.loop-at.all.items c.loop-at.at c.loop-at.invariant.are);
}
