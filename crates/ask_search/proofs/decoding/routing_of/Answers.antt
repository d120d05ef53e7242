use Rattle.ask_search.proofs.Decodings.{exported_there, routing_there, width_there}
use Rattle.ask_search.proofs.decoding.routing_of.Goals as goal

pub decode_routing-requires-clause-width : goal.decode_routing-requires-clause-width
decode_routing-requires-clause-width c =
    width_there c.args.net.now.files c.args.net.now.tracked c.args.ask.now c.in_ok-question.question c.in_ok-plan.plan
    c.in_ok-question.ensures c.in_ok-plan.ensures _ _ c.requires.width c.requires.encoding.vars

pub decode_routing-requires-clause-routing : goal.decode_routing-requires-clause-routing
decode_routing-requires-clause-routing c =
    routing_there c.args.net.now.files c.args.net.now.tracked c.args.ask.now c.in_ok-question.question c.in_ok-plan.plan
    c.in_ok-question.ensures c.in_ok-plan.ensures c.args.values.now
    (c.requires.encoding.routing c.args.values.now c.requires.root)

pub returns : goal.returns
returns c =
    exported_there c.args.net.now.files c.args.net.now.tracked c.args.ask.now c.in_ok-question.question c.in_ok-plan.plan
    c.in_ok-question.ensures c.in_ok-plan.ensures c.args.values.now c.in_ok-decoded.decoded c.in_ok-decoded.ensures.world
    c.in_ok-decoded.ensures.environment (c.requires.encoding.sound c.args.values.now c.requires.root)
