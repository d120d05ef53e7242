use Rattle.std.proofs.Common.{ap, arith, ◌∙◌}
use Rattle.bgp_variables.specs.Shapes.{told_from}
use Rattle.bgp_variables.proofs.Joining.{held_is, width_is}
use Rattle.bgp_variables.proofs.routes.open_held.Goals as goal

pub returns-clause-vars : goal.returns-clause-vars
returns-clause-vars c =
    let first = c.in_ok-valid.ensures.vars in
    let next = c.in_ok-from.ensures.vars in
    width_is c.args.room.now c.args.terms.now.vars _ _ _ c.in_ok-route.ensures.vars c.in_ok-rest.ensures.vars
    (omega (arith, first, next))

pub returns-clause-value : goal.returns-clause-value
returns-clause-value c = λ w reads.
    let r2 = c.open_rest.ensures.grows.reads w reads in
    let r1 = c.open_route.ensures.grows.reads w r2 in
    let r0 = c.open_field.ensures.grows.reads w r1 in
    let first = c.in_ok-valid.ensures.vars in
    let next = c.in_ok-from.ensures.vars in
    held_is c.args.room.now w c.args.terms.now.vars _ _ _ _ _ _ _ c.joined-bgp.ensures (c.in_ok-valid.ensures.value w r0)
    (c.in_ok-route.ensures.value w r2) (c.in_ok-rest.ensures.value w reads)
    (c.in_ok-from.ensures.value w r1 ∙ ap (told_from c.args.room.now.from w.variable) first)
    (omega (arith, first, next)) c.in_ok-route.ensures.vars
