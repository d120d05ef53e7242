use Rattle.resolution_check.proofs.LogLines.{same_log}
use Rattle.cdcl_search.proofs.laws.log_law.Goals as goal

pub returns : goal.returns
returns c = λ clauses others ds es log other same. same_log ds es log.texts other.texts same
