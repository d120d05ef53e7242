use Rattle.std.proofs.Common.{◌∙◌}
use Rattle.sym_policy.specs.Records.{prefix_of}
use Rattle.bgp_equations.specs.Environments.{environment_read}
use Rattle.bgp_equations.specs.Equations.{slots_read}
use Rattle.bgp_equations.proofs.CandidateSteps.{builds_join}
use Rattle.bgp_equations.proofs.learnt.learnt.Goals as goal

pub returns-clause-builds : goal.returns-clause-builds
returns-clause-builds c = builds_join _ _ _ c.in_ok-rec.ensures.builds c.in_ok-aside.ensures.builds

pub returns-clause-value : goal.returns-clause-value
returns-clause-value c = λ w reads has.
    let routing = c.args.routing.now in
    let aside = c.in_ok-aside.ensures in
    c.with_beside.ensures.value w
    ∙ aside.value w reads
    (environment_read w routing.net.now.files routing.tables.now.lens.now routing.env.now)
    (slots_read w routing.tables.now routing.len) (prefix_of w routing.dst.now routing.len) has
    (c.in_ok-rec.ensures.value w (aside.builds.reads w reads))
