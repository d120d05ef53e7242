use Rattle.std.proofs.Common.{arith, map, sym, ap, subst, ◌∙◌}
use Rattle.sym_policy.specs.Held.{failures_of}
use Rattle.sym_policy.specs.Records.{prefix_of}
use Rattle.ospf_equations.specs.Reached.{TellReached, told, up_read}
use Rattle.ospf_equations.proofs.reached.sym_led_routers.Goals as goal

pub returns-clause-value : goal.returns-clause-value
returns-clause-value c = λ w reads real stand.
    let place = c.args.place.now in
    let files = place.net.now.files in
    let failures = failures_of w place.sym.now in
    let p = prefix_of w place.dst.now place.len in
    let routers = c.requires.routers in
    let r1 = c.sym_steps.ensures.builds.reads w reads in
    let r0 = c.sym_all_up.ensures.builds.reads w r1 in
    subst (λ n. TellReached w files failures real p n c.in_ok-reached.reached) routers
    (c.in_ok-reached.ensures.value w reads files failures real p (sym routers)
    (ap (map (up_read w)) c.as_slice.ensures ∙ c.in_ok-over.ensures.value w r1)
    (λ router below. ap (λ xs. told w xs router) c.as_slice-2.ensures
    ∙ c.in_ok-origins.ensures.value w r0 real stand router (omega (arith, below, routers))))
