use Rattle.bgp_values.proofs.RealShapes.{real_told}
use Rattle.bgp_values.proofs.laws.real_law.Goals as goal

pub returns : goal.returns
returns c tracked r = real_told tracked r
