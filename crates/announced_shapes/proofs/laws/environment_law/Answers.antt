use Rattle.announced_shapes.proofs.EnvironmentLaw.{environment_again, environment_may, environment_shapes}
use Rattle.announced_shapes.proofs.laws.environment_law.Goals as goal

pub returns-clause-shape : goal.returns-clause-shape
returns-clause-shape c files tracked s numbers communities is =
    environment_again files tracked s numbers communities is

pub returns-clause-may : goal.returns-clause-may
returns-clause-may c files tracked s numbers communities is = environment_may files tracked s numbers communities is

pub returns-clause-shapes : goal.returns-clause-shapes
returns-clause-shapes c files tracked environment numbers is = environment_shapes files tracked environment numbers is
