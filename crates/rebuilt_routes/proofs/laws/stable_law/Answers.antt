use Rattle.rebuilt_routes.proofs.StableShapes.{shapes_decided}
use Rattle.rebuilt_routes.proofs.laws.stable_law.Goals as goal

pub returns : goal.returns
returns c tracked files destination failures environment tables len net limits stable below =
    shapes_decided files destination failures environment tables stable len below tracked net limits
