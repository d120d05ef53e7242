use Rattle.std.proofs.Common.{◌&&◌, ap₂, ◌∙◌}
use Rattle.ospf_equations.proofs.HoldingSteps.{gives_more}
use Rattle.routing_encoder.proofs.following.sym_follows_at.Goals as goal

pub returns-clause-value : goal.returns-clause-value
returns-clause-value c =
    gives_more c.both.new.terms c.both.result _ _
    (λ w r reads is from real read shapes has all.
    let r1 = c.both.ensures.builds.reads w reads in
    let r0 = c.sym_dearer_at.ensures.builds.reads w r1 in
    is ∙ ap₂ (λ a b. a && b) (c.in_ok-reached.ensures.value w r0 from real read shapes has all)
    (c.in_ok-dearer.ensures.value w r1 from real read shapes has all))
    c.both.ensures.value
