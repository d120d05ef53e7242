use Rattle.std.proofs.Common.{◌+◌, ap, ◌∙◌}
use Rattle.bgp_variables.specs.Environments.{announced_from, environment_width}
use Rattle.igp_variables.specs.Rows.{rows_from, rows_width}
use Rattle.routing_encoder.proofs.OpeningSteps.{environment_begins, routing_ends, routing_is, rows_apart}
use Rattle.routing_encoder.proofs.opening.open_routing.Goals as goal

pub returns-clause-vars : goal.returns-clause-vars
returns-clause-vars c =
    let files = c.args.net.now.files in
    let tracked = c.args.net.now.tracked in
    let question = c.args.question.now in
    let plan = c.args.plan.now in
    let frame = c.in_ok-frame.frame in
    let is = c.in_ok-frame.ensures.frame in
    routing_ends files tracked question plan frame c.args.terms.now.vars c.open_inside.new.terms.vars
    c.open_beyond.new.terms.vars is
    (environment_begins files tracked question plan frame c.args.terms.now.vars c.open_outside.new.terms.vars
    c.open_inside.new.terms.vars is c.in_ok-frame.ensures.destinations c.in_ok-outside.ensures.vars
    c.in_ok-inside.ensures.vars)
    (c.in_ok-beyond.ensures.vars
    ∙ ap (λ ls. c.open_inside.new.terms.vars + environment_width tracked files ls + rows_width files)
    c.as_slice.ensures.value)

pub returns-clause-value : goal.returns-clause-value
returns-clause-value c = λ w reads.
    let files = c.args.net.now.files in
    let tracked = c.args.net.now.tracked in
    let question = c.args.question.now in
    let plan = c.args.plan.now in
    let frame = c.in_ok-frame.frame in
    let is = c.in_ok-frame.ensures.frame in
    let r2 = c.open_beyond.ensures.grows.reads w reads in
    let r1 = c.open_inside.ensures.grows.reads w r2 in
    routing_is w files tracked question plan c.args.terms.now.vars c.open_outside.new.terms.vars
    c.open_inside.new.terms.vars _ is c.in_ok-frame.ensures.destinations (c.in_ok-outside.ensures.packet w r1)
    (rows_apart w c.in_ok-outside.outside.net c.in_ok-beyond.beyond.igp ∙ c.in_ok-outside.ensures.failures w r1)
    c.in_ok-outside.ensures.vars
    (environment_begins files tracked question plan frame c.args.terms.now.vars c.open_outside.new.terms.vars
    c.open_inside.new.terms.vars is c.in_ok-frame.ensures.destinations c.in_ok-outside.ensures.vars
    c.in_ok-inside.ensures.vars)
    (c.in_ok-inside.ensures.parts w r2) (c.in_ok-inside.ensures.routes w r2)
    (c.in_ok-beyond.ensures.ids w reads) (c.in_ok-beyond.ensures.announced w reads
    ∙ ap (λ ls. announced_from tracked files ls w.variable c.open_inside.new.terms.vars) c.as_slice.ensures.value)
    (c.in_ok-beyond.ensures.rows w reads
    ∙ ap (λ ls. rows_from files w.variable (c.open_inside.new.terms.vars + environment_width tracked files ls))
    c.as_slice.ensures.value)
