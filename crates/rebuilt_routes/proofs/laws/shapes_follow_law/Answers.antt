use Rattle.rebuilt_routes.proofs.ShapesFollow.{all_follow}
use Rattle.rebuilt_routes.proofs.laws.shapes_follow_law.Goals as goal

pub returns : goal.returns
returns c tracked files failures environment slots p net limits shapes =
    all_follow tracked files failures environment slots p net limits shapes
