use Rattle.std.proofs.Common.{◌<◌, ◌≤◌, arith}
use Rattle.std.proofs.lemmas.List.Elements.{All-weaker}
use Rattle.net_parts.specs.Ospf.{adjacencies}
use Rattle.net_parts.proofs.Costs.{adjacency_costs}
use Rattle.ospf_equations.proofs.ReachedLaw.{all_reached}
use Rattle.ospf_equations.proofs.reached.reached_law.Goals as goal

pub returns : goal.returns
returns c = λ failures real p short size held.
    let files = c.args.net.now.files in
    all_reached files failures real p size (omega (arith, short))
    (All-weaker (λ a. (0 < a.cost) × (a.cost ≤ 65535)) (λ a. 0 < a.cost) (λ a both. both.0) (adjacencies files)
    (adjacency_costs files c.routers.ensures.limits)) held
