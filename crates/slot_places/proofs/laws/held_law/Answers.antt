use Rattle.net_parts.proofs.LeastWalks.{in-contains}
use Rattle.slot_places.proofs.Fitting.{held_cost, held_fits, held_known, nothing_held}
use Rattle.slot_places.proofs.laws.held_law.Goals as goal

pub returns-clause-comes_from : goal.returns-clause-comes_from
returns-clause-comes_from c files destinations destination failures environment tables len router slot held covered
    stable costs short here holds =
    let from = held_known files destinations destination failures environment tables stable covered costs len short
    router slot held here holds in
    (from.origin, in-contains from.origin _ from.there, from.kind, from.metric)

pub returns-clause-cost : goal.returns-clause-cost
returns-clause-cost c files destinations destination failures environment tables len router slot held covered stable
    costs short here holds =
    held_cost files destinations destination failures environment tables stable covered costs len short router slot held
    here holds

pub returns-clause-nothing : goal.returns-clause-nothing
returns-clause-nothing c files destinations destination failures environment tables len router slot covered stable costs
    short none here =
    nothing_held files destinations destination failures environment tables stable covered costs len short none router
    slot here

pub returns-clause-fits : goal.returns-clause-fits
returns-clause-fits c files destinations destination failures environment tables len router slot held covered stable
    costs short here holds =
    held_fits files destinations destination failures environment tables stable covered costs len short router slot held
    here holds
