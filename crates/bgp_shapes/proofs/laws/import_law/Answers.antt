use Rattle.bgp_shapes.proofs.ImportLaw.{imported_shape}
use Rattle.bgp_shapes.proofs.TrackedLaw.{tests_tracked}
use Rattle.bgp_shapes.proofs.laws.import_law.Goals as goal

pub returns : goal.returns
returns c tracked files end p message names =
    imported_shape tracked files end p message (tests_tracked files tracked names)
