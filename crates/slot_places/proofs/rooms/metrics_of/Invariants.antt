use Rattle.std.proofs.Common.{◌≡◌, drop, map}
use Rattle.std.specs.Prelude.{fold}
use Rattle.slot_places.specs.Values.{once, put_once}
use Rattle.slot_places.proofs.rooms.metrics_of.Given as goal

abbrev pub invariant-loop-r : goal.invariant-loop-r
invariant-loop-r l = fold put_once l.metrics (map (λ r. r.metric) (drop l.r-index l.origins))
    ≡ once (map (λ r. r.metric) l.origins)
