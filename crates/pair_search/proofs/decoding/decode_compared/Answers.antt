use Rattle.pair_search.proofs.Decodings.{right_of}
use Rattle.pair_search.proofs.decoding.decode_compared.Goals as goal

pub returns-clause-right : goal.returns-clause-right
returns-clause-right c =
    right_of c.args.left.now.files c.args.right.now.files c.args.ask.now c.in_ok-two.two.one c.in_ok-two.two.other
    c.in_ok-apart.apart c.different.result c.different.ensures c.in_ok-two.ensures c.in_ok-apart.ensures
