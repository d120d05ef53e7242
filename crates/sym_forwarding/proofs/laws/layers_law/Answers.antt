use Rattle.sym_forwarding.proofs.BreakingWalks.{broken_all, broken_yes}
use Rattle.sym_forwarding.proofs.laws.layers_law.Goals as goal

pub returns-clause-broken : goal.returns-clause-broken
returns-clause-broken c = broken_yes

pub returns-clause-all : goal.returns-clause-all
returns-clause-all c = broken_all
