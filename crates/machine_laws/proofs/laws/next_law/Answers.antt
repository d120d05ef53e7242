use Rattle.machine_laws.proofs.NextLaws.{next_none, quiet_next}
use Rattle.machine_laws.proofs.laws.next_law.Goals as goal

pub returns : goal.returns
returns c files d s = (λ none. next_none files d s none, λ quiet. quiet_next files d s quiet)
