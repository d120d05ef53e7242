use Rattle.std.proofs.Common.{◌≡◌, drop, map}
use Rattle.std.specs.Prelude.{fold}
use Rattle.net_parts.specs.OspfRoutes.{kind_rank}
use Rattle.slot_places.specs.Values.{once, put_once}
use Rattle.slot_places.proofs.rooms.kinds_of.Given as goal

abbrev pub invariant-loop-r : goal.invariant-loop-r
invariant-loop-r l = fold put_once l.kinds (map (λ r. kind_rank r.kind) (drop l.r-index l.origins))
    ≡ once (map (λ r. kind_rank r.kind) l.origins)
