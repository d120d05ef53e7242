use Rattle.std.proofs.Common.{ap, filter, ◌++◌, ◌==◌, ◌∙◌}
use Rattle.std.specs.List.{enumerate_from, filter_map}
use Rattle.net_parts.specs.Sessions.{ends_of}
use Rattle.bgp_equations.specs.Equations.{learnt_read}
use Rattle.bgp_equations.proofs.LocalSteps.{whole}
use Rattle.bgp_equations.proofs.candidates.sym_candidates.Goals as goal

pub returns-clause-value : goal.returns-clause-value
returns-clause-value c = λ w reads file process has found runs.
    let routing = c.args.routing.now in
    let all = c.in_ok-all.ensures in
    let files = routing.net.now.files in
    all.value w reads has
    ∙ ap (λ xs. xs ++ filter_map (learnt_read w routing.net.now.tracked files routing.sym.now routing.env.now
    routing.tables.now routing.dst.now routing.len)
    (filter (λ e. e.1.router == c.args.router) (enumerate_from 0 (ends_of files))))
    (c.in_ok-own.ensures.value w (all.builds.reads w reads) file process found runs)
    ∙ whole w routing.net.now.tracked files routing.sym.now routing.env.now routing.tables.now routing.dst.now
    routing.len c.args.router file process c.args.slot.now c.requires.there
