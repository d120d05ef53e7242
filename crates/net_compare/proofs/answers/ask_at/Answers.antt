use Rattle.std.proofs.Common.{length, refl}
use Rattle.std.proofs.lemmas.Option.{slice_get_read}
use Rattle.net_compare.proofs.answers.ask_at.Goals as goal

pub returns : goal.returns
returns c = slice_get_read c.args.asks.now (length c.args.asks.now) c.args.at c.index-asks-at.result refl c.requires c.index-asks-at.is
