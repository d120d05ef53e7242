use Rattle.cex_json.proofs.WritableFiles.{writable_net}
use Rattle.cex_json.proofs.laws.network_law.Goals as goal

pub returns : goal.returns
returns c = writable_net
