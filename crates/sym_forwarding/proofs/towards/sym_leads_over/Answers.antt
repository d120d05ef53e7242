use Rattle.std.proofs.Common.{◌&&◌, ◌∙◌, ap₂}
use Rattle.sym_forwarding.proofs.towards.sym_leads_over.Goals as goal

pub returns-clause-value : goal.returns-clause-value
returns-clause-value c = λ w reads has.
    let leads = c.in_ok-leads.ensures in
    let made = c.in_ok-made.ensures in
    let after = made.builds.reads w reads in
    made.value w reads
    ∙ ap₂ (λ a b. a && b) (c.in_ok-up.ensures.value w (leads.builds.reads w after)) (leads.value w after has)
