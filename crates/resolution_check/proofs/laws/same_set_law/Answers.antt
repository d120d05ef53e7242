use Rattle.resolution_check.proofs.Resolvents.{same_resolvent}
use Rattle.resolution_check.proofs.laws.same_set_law.Goals as goal

pub returns : goal.returns
returns c = same_resolvent
