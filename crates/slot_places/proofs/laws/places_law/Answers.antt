use Rattle.plan_places.specs.Places.{place}
use Rattle.plan_places.specs.Plans.{lens_of}
use Rattle.route_record.specs.declared.TheConstants.{LENGTHS}
use Rattle.net_parts.proofs.LeastWalks.{contains-in, in-contains}
use Rattle.slot_places.proofs.PlaceLaws.{in-lens, in-places, lens-ascend, lens-in, places-ascend, places-in}
use Rattle.plan_places.proofs.PlaceSteps.{places-length}
use Rattle.slot_places.proofs.PlaceLaws.{single-has}
use Rattle.slot_places.proofs.laws.places_law.Goals as goal

pub returns-clause-there : goal.returns-clause-there
returns-clause-there c plan routers router len below short some =
    in-contains (place router len) _ (places-in (lens_of plan) routers router len below
    (lens-in plan LENGTHS len short some))

pub returns-clause-only : goal.returns-clause-only
returns-clause-only c plan routers p there =
    let found = in-places (lens_of plan) routers p (contains-in p _ there) in
    let len = in-lens plan LENGTHS p.len found.1 in
    (found.0, len.0, len.1)

pub returns-clause-ascending : goal.returns-clause-ascending
returns-clause-ascending c plan routers = places-ascend (lens_of plan) routers (lens-ascend plan LENGTHS)

pub returns-clause-many : goal.returns-clause-many
returns-clause-many c plan routers = places-length (lens_of plan) routers

pub returns-clause-single : goal.returns-clause-single
returns-clause-single c len short = single-has len short
