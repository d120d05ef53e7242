use Rattle.std.proofs.Common.{◌≡◌, drop, filter, fold}
use Rattle.std.specs.List.{enumerate_from, filter_map}
use Rattle.net_parts.specs.Ospf.{adjacencies, receives}
use Rattle.net_parts.specs.OspfRoutes.{better_of, first_best, offer_heard}
use Rattle.route_candidates.specs.Heard.{heard_in}
use Rattle.route_candidates.proofs.held.held_from.Given as goal

-- the best so far, with the offers over the adjacencies that are left, is the best of all
abbrev pub invariant-loop-at : goal.invariant-loop-at
invariant-loop-at l =
    fold better_of l.best (filter_map (offer_heard (heard_in l.heard))
    (filter (λ e. receives l.net.files l.failures l.router e.1)
    (enumerate_from l.at (drop l.at (adjacencies l.net.files)))))
    ≡ fold better_of (first_best l.origins) (filter_map (offer_heard (heard_in l.heard))
    (filter (λ e. receives l.net.files l.failures l.router e.1) (enumerate_from 0 (adjacencies l.net.files))))
