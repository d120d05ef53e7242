use Rattle.sliced_routings.proofs.Sliced.{has_sliced}
use Rattle.sliced_routings.proofs.laws.sliced_law.Goals as goal

pub returns-clause-sliced : goal.returns-clause-sliced
returns-clause-sliced c files question plan fits world environment walk breaking =
    has_sliced files question plan fits world environment walk breaking

pub returns-clause-there : goal.returns-clause-there
returns-clause-there c files question plan fits (world, environment, walk, breaking) =
    let h = has_sliced files question plan fits world environment walk breaking in
    (h.0, h.1, walk, h.2)

pub returns-clause-back : goal.returns-clause-back
returns-clause-back c files question plan fits (world, environment, walk, broken) =
    (world, environment, walk, broken.breaking)
