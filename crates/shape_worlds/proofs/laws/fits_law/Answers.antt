use Rattle.shape_worlds.proofs.RealWorlds.{routes_fit}
use Rattle.shape_worlds.proofs.laws.fits_law.Goals as goal

pub returns : goal.returns
returns c tracked files s net limits holds values numbers = routes_fit tracked files s net limits holds values numbers
