use Rattle.std.proofs.Common.{◌≡◌, ◌∙◌, ◌-◌, IfOk, ap, arith, option_and_then, subst, sym}
use Rattle.rebuilt_routes.specs.Following.{real_route}
use Rattle.path_rebuild.specs.Shapes.{route_of}
use Rattle.path_rebuild.specs.Sources.{source_of}
use Rattle.path_rebuild.specs.Tables.{slots_of}
use Rattle.path_rebuild.proofs.Steps.{real_more}
use Rattle.path_rebuild.proofs.following.+real_route.Goals as goal
use Rattle.path_rebuild.proofs.following.+real_route.Goals.{in-None, in-Some-source+in_ok-route-in-Some-source}

pub returns : goal.returns
returns t c =
    let net = c.args.net.now in
    let len = c.args.p.now.len in
    let slots = slots_of net.tracked c.args.held.now c.args.rest.now len in
    let before = real_route net.tracked net.files c.args.env.now slots c.args.p.now (c.args.fuel - 1) in
    let known = c.in-Some.known.now in
    let from : c.match-source.route
    ≡ option_and_then before (source_of net.files c.args.router (route_of net.tracked known)) =
    elim c.match-source.branch [
      | in-None w ↦ w.route-is ∙ ap (option_and_then before) w.in-None.ensures
      | in-Some-source+in_ok-route-in-Some-source w ↦ w.route-is ∙ w.in_ok-route-in-Some-source.ensures
          ∙ ap (option_and_then before) w.in-Some-source.ensures
    ] in
    subst (λ o. IfOk c.follow.result (λ r. r ≡ o))
    (sym (real_more net.tracked net.files c.args.env.now c.args.held.now c.args.rest.now c.args.p.now c.args.fuel
    c.args.router known c.match-source.route (omega (arith, c.if-fuel-eq0.false)) (sym c.in-Some.ensures) from))
    c.follow.ensures
