use Rattle.net_parts.proofs.Equations.{solution_is}
use Rattle.net_model.proofs.laws.distance_equations_law.Goals as goal

pub returns : goal.returns
returns c files failures p d costs equations router = solution_is files failures p d costs equations router
