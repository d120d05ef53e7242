use Rattle.bgp_shapes.proofs.DecisionLaw.{survivors_shape}
use Rattle.bgp_shapes.proofs.laws.survivors_law.Goals as goal

pub returns : goal.returns
returns c tracked always compare_id all short = survivors_shape tracked always compare_id all short
