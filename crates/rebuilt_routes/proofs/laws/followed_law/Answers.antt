use Rattle.rebuilt_routes.proofs.Followed.{are_real}
use Rattle.rebuilt_routes.proofs.laws.followed_law.Goals as goal

pub returns : goal.returns
returns c tracked files environment slots p net follow = are_real tracked files environment slots p net follow
