use Rattle.announced_places.proofs.PlacedThings.{lens_ascend}
use Rattle.announced_places.proofs.laws.lens_law.Goals as goal

pub returns : goal.returns
returns c = lens_ascend
