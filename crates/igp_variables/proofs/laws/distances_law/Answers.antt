use Rattle.igp_variables.proofs.Placed.{rows_are}
use Rattle.igp_variables.proofs.laws.distances_law.Goals as goal

pub returns : goal.returns
returns c w files net runs same = rows_are w files net runs same
