use Rattle.bgp_shapes.proofs.CandidateLaw.{candidates_shape}
use Rattle.bgp_shapes.proofs.TrackedLaw.{tests_tracked}
use Rattle.bgp_shapes.proofs.laws.candidates_law.Goals as goal

pub returns : goal.returns
returns c tracked files failures environment tables router file process p names =
    candidates_shape tracked files failures environment tables router file process p
    (tests_tracked files tracked names)
