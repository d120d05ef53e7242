use Rattle.std.proofs.Common.{◌≡◌, ◌++◌, drop, filter, map}
use Rattle.std.specs.Prelude.{◌==◌}
use Rattle.std.specs.List.{enumerate_from, filter_map}
use Rattle.net_parts.specs.Sessions.{ends_of}
use Rattle.proto_bgp.specs.Steps.{seen}
use Rattle.machine_decisions.specs.Heard.{heard_candidate}
use Rattle.machine_decisions.proofs.learnt.add_heard.Given as goal

-- the candidates so far, with those of the ends that are left, are all
abbrev pub invariant-loop-at : goal.invariant-loop-at
invariant-loop-at l =
    let files = l.decision.net.now.files in
    let heard = heard_candidate files l.decision.state.now l.decision.p.now in
    map seen l.out-inside.items.items
    ++ filter_map heard (filter (λ e. e.1.router == l.decision.router) (enumerate_from l.at (drop l.at (ends_of files))))
    ≡ map seen l.fn.out
    ++ filter_map heard (filter (λ e. e.1.router == l.decision.router) (enumerate_from 0 (ends_of files)))
