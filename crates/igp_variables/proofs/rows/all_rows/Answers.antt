use Rattle.std.proofs.Common.{◌*◌, ap, arith, map, suc}
use Rattle.failed_links.proofs.Steps.{grows_grown}
use Rattle.sym_policy.specs.Held.{ospf_of}
use Rattle.igp_variables.proofs.Steps.{both_times, row_more, row_read}
use Rattle.igp_variables.proofs.rows.all_rows.Goals as goal

pub loop-router-preserved : goal.loop-router-preserved
loop-router-preserved c =
    let router = c.loop-router.router in
    let row = c.prefixes_count-row.result in
    let width = c.distance_width-width.result in
    let before = c.loop-router.invariant in
    let opened = c.in_ok-open_row.ensures in
    let more = row_more router row in
    let long = opened.count in
    let longer = before.length_is in
    let wider = before.vars in
    let vars = opened.vars in
    record {
      grows = grows_grown before.grows opened.grows;
      within = opened.within;
      length_is = omega (arith, long, longer, more);
      vars = let wide = both_times (router * row) row (suc width) in
          let all = ap (λ k. k * suc width) more in
          omega (arith, wider, vars, wide, all);
      value = λ w reads. row_read width w.variable (map (ospf_of w) c.loop-router.made) _
          c.args.terms.now.vars c.loop-router.terms.vars router row (before.value w (opened.grows.reads w reads))
          (opened.value w reads) wider;
    }
