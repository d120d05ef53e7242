use Rattle.pair_search.proofs.Decodings.{first_of, some_apart}
use Rattle.pair_search.proofs.decoding.apart_of.Goals as goal

pub unreachable-requires : goal.unreachable-requires
unreachable-requires c =
    some_apart c.args.left.now.files c.args.right.now.files c.args.ask.now c.args.two.now.one c.args.two.now.other
    c.in_ok-found.found c.requires.differ c.in_ok-found.ensures.none c.in-None.is

pub returns : goal.returns
returns c =
    first_of c.args.left.now.files c.args.right.now.files c.args.ask.now c.args.two.now.one c.args.two.now.other
    c.in_ok-found.found c.in-Some.apart c.requires.differ c.in_ok-found.ensures.some c.in-Some.is
