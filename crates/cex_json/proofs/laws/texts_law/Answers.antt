use Rattle.cex_json.proofs.Dotted.{addr_back, prefix_back}
use Rattle.cex_json.proofs.laws.texts_law.Goals as goal

pub returns-clause-address : goal.returns-clause-address
returns-clause-address c = addr_back

pub returns-clause-prefix : goal.returns-clause-prefix
returns-clause-prefix c = prefix_back
