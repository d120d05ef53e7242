use Rattle.ask_search.proofs.Decodings.{right_of, some_in}
use Rattle.ask_search.proofs.decoding.decode_ask.Goals as goal

pub least_length-requires : goal.least_length-requires
least_length-requires c =
    some_in c.args.net.now.files c.args.ask.now c.in_ok-decoded.decoded c.cex_of-cex.result c.cex_of-cex.ensures
    c.in_ok-decoded.ensures

pub returns-clause-right : goal.returns-clause-right
returns-clause-right c =
    right_of c.args.net.now.files c.args.ask.now c.in_ok-decoded.decoded c.cex_of-cex.result c.in_ok-len.len
    c.cex_of-cex.ensures c.in_ok-decoded.ensures c.in_ok-len.ensures
