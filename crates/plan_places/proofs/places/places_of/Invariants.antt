use Rattle.std.proofs.Common.{◌≡◌}
use Rattle.plan_places.specs.Places.{places_below}
use Rattle.plan_places.proofs.places.places_of.Given as goal

abbrev pub invariant-loop-router : goal.invariant-loop-router
invariant-loop-router l = l.all ≡ places_below l.lens.items l.router
