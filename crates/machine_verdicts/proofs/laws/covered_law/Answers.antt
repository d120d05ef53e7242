use Rattle.machine_verdicts.proofs.Covered.{covered}
use Rattle.machine_verdicts.proofs.laws.covered_law.Goals as goal

pub returns : goal.returns
returns c files question unbroken = covered files question unbroken
