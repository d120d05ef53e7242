use Rattle.rebuilt_routes.proofs.RoutesDecided.{are_decided}
use Rattle.rebuilt_routes.proofs.laws.decided_law.Goals as goal

pub returns : goal.returns
returns c tracked files failures environment slots p tables net limits shapes have =
    are_decided tracked files failures environment slots p net limits shapes tables have
