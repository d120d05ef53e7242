use Rattle.announced_places.proofs.ExternalPlaces.{external_ascend, external_many, external_place, external_row}
use Rattle.announced_places.proofs.laws.external_law.Goals as goal

pub returns-clause-ascend : goal.returns-clause-ascend
returns-clause-ascend c = external_ascend

pub returns-clause-many : goal.returns-clause-many
returns-clause-many c = external_many

pub returns-clause-place : goal.returns-clause-place
returns-clause-place c = external_place

pub returns-clause-row : goal.returns-clause-row
returns-clause-row c = external_row
