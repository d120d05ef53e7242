use Rattle.bgp_shapes.proofs.TrackedLaw.{tests_tracked}
use Rattle.export_terms.proofs.ShapeLaw.{exported_same}
use Rattle.export_terms.proofs.laws.shapes_law.Goals as goal

pub returns : goal.returns
returns c tracked files ask d failures tables len names =
    exported_same tracked files ask d failures tables len (tests_tracked files tracked names)
