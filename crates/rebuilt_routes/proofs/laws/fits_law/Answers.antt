use Rattle.rebuilt_routes.proofs.RoutesFit.{route_fits}
use Rattle.rebuilt_routes.proofs.laws.fits_law.Goals as goal

pub returns : goal.returns
returns c tracked files environment slots p net limits follow values may numbers router rec holds =
    route_fits tracked files environment slots p net limits follow values may numbers router rec holds
