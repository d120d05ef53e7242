use Rattle.net_parts.proofs.EndPlaces.{stretch_is, stretch_ordered}
use Rattle.net_parts.proofs.ends.places_at.Goals as goal

pub returns-clause-ordered : goal.returns-clause-ordered
returns-clause-ordered c =
    stretch_ordered (λ end. end.router) c.args.router c.args.ends.now _ _ c.first_place-from.ensures.point
    c.place_behind-to.ensures.point c.first_place-from.ensures.bound c.place_behind-to.ensures.bound

pub returns-clause-own : goal.returns-clause-own
returns-clause-own c =
    stretch_is (λ end. end.router) c.args.router c.args.ends.now _ _ c.first_place-from.ensures.point
    c.place_behind-to.ensures.point c.first_place-from.ensures.bound c.place_behind-to.ensures.bound
