use Rattle.slot_places.proofs.Bounded.{cost_bound}
use Rattle.slot_places.proofs.laws.cost_bound_law.Goals as goal

pub returns : goal.returns
returns c files destination failures environment tables len most step stable short costs steps origins =
    cost_bound files destination failures environment tables len most step stable short costs steps origins
