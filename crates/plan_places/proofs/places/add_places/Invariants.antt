use Rattle.std.proofs.Common.{◌≡◌, ◌++◌, drop, map}
use Rattle.plan_places.specs.Places.{place}
use Rattle.plan_places.proofs.places.add_places.Given as goal

abbrev pub invariant-loop-len : goal.invariant-loop-len
invariant-loop-len l =
    l.places-inside.items.items ++ map (place l.router) (drop l.len-index l.lens)
    ≡ l.fn.places ++ map (place l.router) l.lens
