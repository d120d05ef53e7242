use Rattle.pair_search.proofs.Decodings.{environment_there, routing_there, width_there, world_there}
use Rattle.pair_search.proofs.decoding.routing_of.Goals as goal

pub decode_routing-requires-clause-width : goal.decode_routing-requires-clause-width
decode_routing-requires-clause-width c =
    width_there c.args.net.now c.args.ask.now c.in_ok-question.question c.in_ok-plan.plan c.in_ok-question.ensures
    c.in_ok-plan.ensures _ c.requires.width

pub decode_routing-requires-clause-routing : goal.decode_routing-requires-clause-routing
decode_routing-requires-clause-routing c =
    routing_there c.args.net.now c.args.ask.now c.in_ok-question.question c.in_ok-plan.plan c.in_ok-question.ensures
    c.in_ok-plan.ensures c.args.values.now c.requires.routing

pub returns-clause-world : goal.returns-clause-world
returns-clause-world c =
    world_there c.args.net.now c.args.ask.now c.in_ok-question.question c.in_ok-plan.plan c.in_ok-question.ensures
    c.in_ok-plan.ensures c.args.values.now c.in_ok-decoded.decoded.world c.in_ok-decoded.ensures.world

pub returns-clause-environment : goal.returns-clause-environment
returns-clause-environment c =
    environment_there c.args.net.now c.args.ask.now c.in_ok-question.question c.in_ok-plan.plan
    c.in_ok-question.ensures c.in_ok-plan.ensures c.args.values.now c.in_ok-decoded.decoded.environment
    c.in_ok-decoded.ensures.environment
