use Rattle.routing_encoder.proofs.RootSteps.{rows_there}
use Rattle.routing_encoder.proofs.routing.sym_bgp_half.Goals as goal

pub sym_all_decided-requires-clause-distances : goal.sym_all_decided-requires-clause-distances
sym_all_decided-requires-clause-distances c =
    rows_there c.args.net.now.files c.args.net.now.tracked c.args.question.now c.args.plan.now c.args.terms.now
    c.args.made.now.routing c.requires.stands
