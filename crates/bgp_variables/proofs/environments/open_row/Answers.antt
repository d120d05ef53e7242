use Rattle.std.proofs.Common.{◌≡◌, ◌+◌, ◌-◌, ◌++◌, [], ◌∷◌, All, ap, arith, length, map, subst, sym, ◌∙◌}
use Rattle.std.specs.Prelude.{replicate}
use Rattle.std.specs.Option.{option_copied}
use Rattle.std.proofs.lemmas.List.{length-append}
use Rattle.std.proofs.lemmas.List.Elements.{All-push}
use Rattle.failed_links.proofs.Steps.{grows_grown}
use Rattle.sym_policy.specs.Held.{bgp_of}
use Rattle.sym_policy.specs.MapRecs.{HasTracked}
use Rattle.term_store.specs.Terms.{size}
use Rattle.bgp_variables.specs.Shapes.{bgps_from, bgps_width}
use Rattle.bgp_variables.proofs.EnvironmentSteps.{bgps_width_next, copies_next, row_read, row_within}
use Rattle.bgp_variables.proofs.environments.open_row.Goals as goal

pub loop-i-preserved : goal.loop-i-preserved
loop-i-preserved c =
    let made = c.loop-i.made in
    let next = c.in_ok-next.next in
    let i = c.loop-i.i in
    let count = c.args.count in
    let room = option_copied c.args.room in
    let rest = replicate (count - (i + 1)) room in
    let is : c.put_bgp.new.made ≡ made ++ next ∷ [] = c.in_ok-put_bgp.ensures in
    let below = c.loop-i-test.true in
    let before = c.loop-i.invariant in
    let opened = c.in_ok-next.ensures in
    let long = ap length is ∙ length-append made (next ∷ []) in
    let wide = ap bgps_width (copies_next room count i below) ∙ bgps_width_next room rest in
    let longer = before.length_is in
    let wider = before.vars in
    let vars = opened.vars in
    record {
      grows = grows_grown before.grows opened.grows;
      within = row_within made c.put_bgp.new.made next (size c.loop-i.terms) (size c.open_bgp.new.terms) is
          before.within opened.grows.larger opened.within;
      length_is = omega (arith, long, longer);
      rows = subst (All (HasTracked c.args.tracked.now)) (sym is)
          (All-push (HasTracked c.args.tracked.now) made next before.rows opened.rows);
      vars = omega (arith, wide, wider, vars);
      value = λ w reads. ap (λ xs. map (bgp_of w) xs ++ bgps_from rest w.variable c.open_bgp.new.terms.vars) is
          ∙ row_read w made next room c.loop-i.terms.vars c.open_bgp.new.terms.vars count i below
          (opened.value w reads) vars
          ∙ before.value w (opened.grows.reads w reads);
    }
