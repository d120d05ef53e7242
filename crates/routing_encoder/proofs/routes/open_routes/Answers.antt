use Rattle.std.proofs.Common.{◌≡◌, ◌++◌, ◌∷◌, [], All, ap, arith, length, subst, sym, ◌∙◌}
use Rattle.std.proofs.lemmas.List.{length-append}
use Rattle.std.proofs.lemmas.List.Elements.{All-push}
use Rattle.failed_links.proofs.Steps.{grows_grown}
use Rattle.term_store.specs.Terms.{size}
use Rattle.sym_policy.specs.MapRecs.{HasTracked}
use Rattle.bgp_variables.proofs.EnvironmentSteps.{row_within}
use Rattle.routing_encoder.proofs.RouteSteps.{route_read, route_width}
use Rattle.routing_encoder.proofs.routes.open_routes.Goals as goal

pub loop-p-preserved : goal.loop-p-preserved
loop-p-preserved c =
    let made = c.loop-p.made in
    let next = c.in_ok-next.next in
    let i = c.loop-p.p-index in
    let net = c.args.net.now in
    let places = c.args.places.now in
    let is : c.put_route.new.made ≡ made ++ next ∷ [] = c.in_ok-put_route.ensures in
    let below = c.loop-p-test.true in
    let before = c.loop-p.invariant in
    let opened = c.in_ok-next.ensures in
    let long = ap length is ∙ length-append made (next ∷ []) in
    let longer = before.length_is in
    let vars = opened.vars in
    record {
      grows = grows_grown before.grows opened.grows;
      within = row_within made c.put_route.new.made next (size c.loop-p.terms) (size c.open_route.new.terms) is
          before.within opened.grows.larger opened.within;
      rows = subst (All (HasTracked net.tracked)) (sym is) (All-push (HasTracked net.tracked) made next before.rows opened.rows);
      length_is = omega (arith, long, longer);
      vars = route_width net.tracked net.files places c.loop-p.terms.vars c.open_route.new.terms.vars i _ below vars
          ∙ before.vars;
      value = λ w reads.
          route_read w made c.put_route.new.made next net.tracked net.files places c.loop-p.terms.vars
          c.open_route.new.terms.vars i _ below is (opened.value w reads) vars
          ∙ before.value w (opened.grows.reads w reads);
    }
