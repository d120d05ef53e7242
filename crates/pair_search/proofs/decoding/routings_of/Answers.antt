use Rattle.pair_search.proofs.Decodings.{differ_so, others_routing, others_width, own_routing, own_width, split_within}
use Rattle.pair_search.proofs.decoding.routings_of.Goals as goal

pub split_at-requires : goal.split_at-requires
split_at-requires c =
    split_within c.args.left.now c.args.right.now c.args.ask.now c.args.encoding.now c.args.values.now
    c.requires.encoding c.requires.width

pub routing_of-requires-clause-width : goal.routing_of-requires-clause-width
routing_of-requires-clause-width c =
    own_width c.args.left.now c.args.right.now c.args.ask.now c.args.encoding.now c.args.values.now
    c.requires.encoding c.requires.width c.split_at.result.0.now c.split_at.result.1.now c.split_at.ensures.front
    c.split_at.ensures.back c.split_at.ensures.front_len c.split_at.ensures.back_len

pub routing_of-requires-clause-routing : goal.routing_of-requires-clause-routing
routing_of-requires-clause-routing c =
    own_routing c.args.left.now c.args.right.now c.args.ask.now c.args.encoding.now c.args.values.now
    c.requires.encoding c.requires.width c.split_at.result.0.now c.split_at.result.1.now c.split_at.ensures.front
    c.split_at.ensures.back c.split_at.ensures.front_len c.split_at.ensures.back_len c.requires.root

pub routing_of-requires-2-clause-width : goal.routing_of-requires-2-clause-width
routing_of-requires-2-clause-width c =
    others_width c.args.left.now c.args.right.now c.args.ask.now c.args.encoding.now c.args.values.now
    c.requires.encoding c.requires.width c.split_at.result.0.now c.split_at.result.1.now c.split_at.ensures.front
    c.split_at.ensures.back c.split_at.ensures.front_len c.split_at.ensures.back_len

pub routing_of-requires-2-clause-routing : goal.routing_of-requires-2-clause-routing
routing_of-requires-2-clause-routing c =
    others_routing c.args.left.now c.args.right.now c.args.ask.now c.args.encoding.now c.args.values.now
    c.requires.encoding c.requires.width c.split_at.result.0.now c.split_at.result.1.now c.split_at.ensures.front
    c.split_at.ensures.back c.split_at.ensures.front_len c.split_at.ensures.back_len c.requires.root

pub returns : goal.returns
returns c =
    differ_so c.args.left.now c.args.right.now c.args.ask.now c.args.encoding.now c.args.values.now
    c.requires.encoding c.requires.width c.split_at.result.0.now c.split_at.result.1.now c.split_at.ensures.front
    c.split_at.ensures.back c.split_at.ensures.front_len c.split_at.ensures.back_len c.requires.root
    c.in_ok-one.one c.in_ok-other.other c.in_ok-one.ensures.world c.in_ok-one.ensures.environment
    c.in_ok-other.ensures.world c.in_ok-other.ensures.environment
