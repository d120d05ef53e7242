use Rattle.bgp_shapes.proofs.TrackedLaw.{tests_tracked}
use Rattle.bgp_shapes.proofs.laws.tracked_law.Goals as goal

pub returns : goal.returns
returns c files tracked names = tests_tracked files tracked names
