use Rattle.announced_places.proofs.ExternalPlaces.{environment_found, environment_ordered}
use Rattle.announced_places.proofs.laws.environment_law.Goals as goal

pub returns-clause-found : goal.returns-clause-found
returns-clause-found c = environment_found

pub returns-clause-order : goal.returns-clause-order
returns-clause-order c = environment_ordered
