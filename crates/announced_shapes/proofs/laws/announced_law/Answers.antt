use Rattle.announced_shapes.proofs.AnnouncementLaw.{announced_shape}
use Rattle.announced_shapes.proofs.laws.announced_law.Goals as goal

pub returns : goal.returns
returns c files tracked a numbers is = announced_shape files tracked a numbers is
