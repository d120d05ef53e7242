use Rattle.slot_places.proofs.Fitting.{unused_empty}
use Rattle.slot_places.proofs.PlaceLaws.{unused-off}
use Rattle.slot_places.proofs.Unused.{empty_stable}
use Rattle.slot_places.proofs.laws.unused_law.Goals as goal

pub returns-clause-empty : goal.returns-clause-empty
returns-clause-empty c files destinations destination failures environment tables len router slot covered stable costs
    short here unused =
    unused_empty files destinations destination failures environment tables stable covered costs len short router slot
    here unused

pub returns-clause-off_places : goal.returns-clause-off_places
returns-clause-off_places c files destinations destination failures environment tables plan len router slot covered
    stable costs wide below short here none =
    unused_empty files destinations destination failures environment tables stable covered costs len short router slot
    here (unused-off files destinations plan router len wide below short none)

pub returns-clause-stable : goal.returns-clause-stable
returns-clause-stable c files destinations destination failures environment tables len router file covered at short
    unused here others =
    empty_stable files destinations destination failures environment tables covered router len file at short unused here
    others
