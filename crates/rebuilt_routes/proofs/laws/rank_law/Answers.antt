use Rattle.rebuilt_routes.proofs.Followed.{ranks_less}
use Rattle.rebuilt_routes.proofs.laws.rank_law.Goals as goal

pub returns : goal.returns
returns c tracked files environment slots p net follow = ranks_less tracked files environment slots p net follow
