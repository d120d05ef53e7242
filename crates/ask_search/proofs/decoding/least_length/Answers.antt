use Rattle.export_asks.specs.Exported.{is_exported}
use Rattle.ask_search.proofs.Decodings.{some_least}
use Rattle.ask_search.proofs.decoding.least_length.Goals as goal

pub unreachable-requires : goal.unreachable-requires
unreachable-requires c =
    some_least (is_exported c.args.net.now.files c.args.ask.now c.args.cex.now.packet.dst c.args.cex.now.failures
    c.args.cex.now.tables) c.requires c.in_ok-least.least c.in_ok-least.ensures c.in-None.is
