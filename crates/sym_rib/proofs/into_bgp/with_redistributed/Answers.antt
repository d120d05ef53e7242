use Rattle.std.proofs.Common.{rules, arith, ap, map, ◌++◌, ◌∙◌}
use Rattle.std.proofs.lemmas.Grind.{common_steps}
use Rattle.std.proofs.lemmas.List.{take_all}
use Rattle.std.specs.List.{filter_map}
use Rattle.net_parts.specs.Origins.{into_bgp}
use Rattle.sym_policy.specs.Held.{bgp_of}
use Rattle.route_shapes.specs.Bgp.{bgp_shape}
use Rattle.sym_policy.specs.Records.{prefix_of}
use Rattle.sym_policy.specs.MapRecs.{HasTracked}
use Rattle.sym_rib.proofs.OneEach.{all_put, lines_step, list_end-append}
use Rattle.sym_rib.proofs.into_bgp.with_redistributed.Goals as goal

pub loop-line-preserved : goal.loop-line-preserved
loop-line-preserved c =
    let lookup = c.args.lookup.now in
    let old = c.loop-line.invariant in
    let rec = c.in_ok-rec.ensures in
    record {
      builds = search rules;
      within = grind (arith, common_steps, list_end-append);
      rows = λ before.
          all_put (HasTracked c.args.tracked.now) c.loop-line.made _ c.in_ok-rec.rec c.in_ok-put_bgp.ensures
          (old.rows before) rec.rows;
      value = λ w reads held all stands.
          ap (filter_map (bgp_of w)) c.in_ok-put_bgp.ensures
          ∙ lines_step (bgp_of w) (bgp_shape c.args.tracked.now)
          (into_bgp lookup.net.now.files lookup.router lookup.file.now (prefix_of w lookup.dst.now lookup.len) held)
          (filter_map (bgp_of w) c.args.before)
          c.loop-line.made c.in_ok-rec.rec c.args.lines.now c.loop-line.line-index c.line-item.result (omega arith)
          c.line-item.is (rec.value w reads held all stands)
          (old.value w (rec.builds.reads w reads) held all stands);
    }

pub returns-clause-value : goal.returns-clause-value
returns-clause-value c = λ w reads held all stands.
    let lookup = c.args.lookup.now in
    let of_line = into_bgp lookup.net.now.files lookup.router lookup.file.now
    (prefix_of w lookup.dst.now lookup.len) held in
    c.loop-line.invariant.value w reads held all stands
    ∙ ap (λ ls. filter_map (bgp_of w) c.args.before ++ map (bgp_shape c.args.tracked.now) (filter_map of_line ls))
    (take_all c.loop-line.line-index c.args.lines.now c.loop-line-test.false)
