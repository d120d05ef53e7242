use Rattle.cnf_blaster.proofs.Truth.{node-value}
use Rattle.cnf_blaster.proofs.laws.gate_law.Goals as goal

pub returns : goal.returns
returns c = node-value
