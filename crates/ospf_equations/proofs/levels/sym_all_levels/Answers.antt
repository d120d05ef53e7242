use Rattle.std.proofs.Common.{◌≡◌, ap₂, ◌∙◌, ◌&&◌}
use Rattle.ospf_equations.proofs.levels.sym_all_levels.Goals as goal

pub returns-clause-value : goal.returns-clause-value
returns-clause-value c = λ w reads tracked real stand best.
    let r3 = c.both-2.ensures.builds.reads w reads in
    let r2 = c.both.ensures.builds.reads w r3 in
    let r1 = c.sym_ordered.ensures.builds.reads w r2 in
    let r0 = c.sym_all_at.ensures.builds.reads w r1 in
    c.in_ok-all.ensures.value w reads
    ∙ ap₂ (λ a b. a && b)
    (c.in_ok-levels.ensures.value w r3 ∙ ap₂ (λ a b. a && b) (c.in_ok-below.ensures.value w r0 tracked real stand best)
    (c.in_ok-costs.ensures.value w r1 tracked real stand best))
    (c.in_ok-order.ensures.value w r2)
