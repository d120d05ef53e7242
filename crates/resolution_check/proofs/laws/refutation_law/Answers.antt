use Rattle.resolution_check.proofs.Truth.{unsatisfiable}
use Rattle.resolution_check.proofs.laws.refutation_law.Goals as goal

pub returns : goal.returns
returns c = λ es refutes. unsatisfiable es refutes.0 refutes.1
