use Rattle.bgp_equations.proofs.ExternalCost.{external_cost}
use Rattle.bgp_equations.proofs.laws.external_cost_law.Goals as goal

pub returns : goal.returns
returns c = external_cost
