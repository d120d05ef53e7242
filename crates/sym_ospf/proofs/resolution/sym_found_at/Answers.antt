use Rattle.std.proofs.Common.{◌∙◌, Some, sym, if◌then◌else◌}
use Rattle.sym_policy.specs.Held.{ospf_of}
use Rattle.sym_ospf.proofs.Reach.{row_is}
use Rattle.sym_ospf.proofs.resolution.sym_found_at.Goals as goal

pub returns-clause-value : goal.returns-clause-value
returns-clause-value c = λ w reads has.
    let step = c.in_ok-made.ensures in
    let inside = c.in_ok-inside.ensures.value w (step.builds.reads w reads) in
    let hop = c.args.hop.now in
    let row = row_is w hop.net.now.files hop.sym.now hop.router c.args.k c.args.p.now (Some c.igp_of-rec.result.now) has
    c.requires.router c.requires.there (sym c.igp_of-rec.ensures.value) in
    step.value w reads ∙ (λ i. if inside i then row i else ospf_of w c.args.behind.now)
