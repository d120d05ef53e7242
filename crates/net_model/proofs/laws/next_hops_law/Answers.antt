use Rattle.net_model.proofs.NextHops.{on_one}
use Rattle.net_model.proofs.laws.next_hops_law.Goals as goal

pub returns : goal.returns
returns c = on_one
