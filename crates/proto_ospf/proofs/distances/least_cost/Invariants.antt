use Rattle.std.proofs.Common.{◌≡◌, drop, filter, map}
use Rattle.std.specs.Prelude.{◌==◌, fold}
use Rattle.proto_ospf.specs.Origins.{least_cost}
use Rattle.proto_ospf.specs.Rounds.{lower}
use Rattle.proto_ospf.proofs.distances.least_cost.Given as goal

-- the least so far, with the interfaces that are left, is the least of all
abbrev pub invariant-loop-x : goal.invariant-loop-x
invariant-loop-x l =
    fold lower l.best (map (λ x. x.cost) (filter (λ x. x.at.id.router == l.router) (drop l.x-index l.origins)))
    ≡ least_cost l.origins l.router
