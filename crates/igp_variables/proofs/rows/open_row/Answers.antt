use Rattle.std.proofs.Common.{◌≡◌, ◌++◌, ◌∷◌, [], ap, arith, length, suc, ◌∙◌}
use Rattle.std.proofs.lemmas.List.{length-append}
use Rattle.failed_links.proofs.Steps.{grows_grown}
use Rattle.term_store.specs.Terms.{size}
use Rattle.igp_variables.proofs.Steps.{next_read, routes_within, row_more}
use Rattle.igp_variables.proofs.rows.open_row.Goals as goal

pub loop-i-preserved : goal.loop-i-preserved
loop-i-preserved c =
    let made = c.loop-i.made in
    let next = c.in_ok-next.next in
    let is : c.put_route.new.made ≡ made ++ next ∷ [] = c.in_ok-put_route.ensures in
    let before = c.loop-i.invariant in
    let opened = c.in_ok-next.ensures in
    let long = ap length is ∙ length-append made (next ∷ []) in
    let longer = before.length_is in
    let wider = before.vars in
    let vars = opened.vars in
    record {
      grows = grows_grown before.grows opened.grows;
      within = routes_within made c.put_route.new.made next (size c.loop-i.terms) (size c.open_route.new.terms) is
          before.within opened.grows.larger opened.within;
      length_is = omega (arith, long, longer);
      vars = let more = row_more c.loop-i.i (suc c.args.width) in omega (arith, wider, vars, more);
      value = λ w reads. next_read c.args.width w c.args.made.now made c.put_route.new.made next c.args.terms.now.vars
          c.loop-i.terms.vars c.loop-i.i is (before.value w (opened.grows.reads w reads)) wider
          (opened.value w reads);
    }
