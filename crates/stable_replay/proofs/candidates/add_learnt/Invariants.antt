use Rattle.std.proofs.Common.{◌≡◌, ◌++◌, drop, filter, map}
use Rattle.std.specs.Prelude.{◌==◌}
use Rattle.std.specs.List.{enumerate_from, filter_map}
use Rattle.net_parts.specs.Sessions.{ends_of}
use Rattle.proto_bgp.specs.Steps.{seen}
use Rattle.stable_replay.specs.Parts.{arriving_candidate}
use Rattle.stable_replay.proofs.candidates.add_learnt.Given as goal

-- the candidates so far, with those of the ends that are left, are all
abbrev pub invariant-loop-at : goal.invariant-loop-at
invariant-loop-at l =
    map seen l.out-inside.items.items
    ++ filter_map (arriving_candidate l.routing.net.now.files l.routing.failures.now l.routing.env.now
    l.routing.tables.now l.p)
    (filter (λ e. e.1.router == l.router) (enumerate_from l.at (drop l.at (ends_of l.routing.net.now.files))))
    ≡ map seen l.fn.out
    ++ filter_map (arriving_candidate l.routing.net.now.files l.routing.failures.now l.routing.env.now
    l.routing.tables.now l.p)
    (filter (λ e. e.1.router == l.router) (enumerate_from 0 (ends_of l.routing.net.now.files)))
