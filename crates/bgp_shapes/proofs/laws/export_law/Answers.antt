use Rattle.bgp_shapes.proofs.ExportLaw.{exported_shape}
use Rattle.bgp_shapes.proofs.TrackedLaw.{tests_tracked}
use Rattle.bgp_shapes.proofs.laws.export_law.Goals as goal

pub returns : goal.returns
returns c tracked files end p held names = exported_shape tracked files end p held (tests_tracked files tracked names)
