use Rattle.machine_laws.proofs.Reached.{reached_stable}
use Rattle.machine_laws.proofs.laws.quiet_law.Goals as goal

pub returns : goal.returns
returns c files d s reached fits quiet = reached_stable files d s reached fits quiet
