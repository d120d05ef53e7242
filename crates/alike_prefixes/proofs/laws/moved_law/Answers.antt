use Rattle.alike_prefixes.proofs.Announced.{moved_fits}
use Rattle.alike_prefixes.proofs.Moved.{moved_stable}
use Rattle.alike_prefixes.proofs.laws.moved_law.Goals as goal

pub returns-clause-routing : goal.returns-clause-routing
returns-clause-routing c files d to from failures environment tables moves stable =
    moved_stable files d to from moves tables stable.size environment failures stable

pub returns-clause-environment : goal.returns-clause-environment
returns-clause-environment c files d to from environment moves fits = moved_fits files d to from moves environment fits
