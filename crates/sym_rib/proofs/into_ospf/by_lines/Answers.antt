use Rattle.std.proofs.Common.{rules, arith, ap, ◌∙◌}
use Rattle.std.proofs.lemmas.Grind.{common_steps}
use Rattle.std.specs.List.{filter_map}
use Rattle.sym_policy.specs.Held.{bgp_of, ospf_of}
use Rattle.sym_policy.specs.Records.{prefix_of}
use Rattle.sym_rib.specs.Redistributed.{shape_into_ospf}
use Rattle.sym_rib.specs.Slots.{rib_of}
use Rattle.sym_rib.proofs.OneEach.{line_step, list_end_push}
use Rattle.sym_rib.proofs.into_ospf.by_lines.Goals as goal

pub loop-line-preserved : goal.loop-line-preserved
loop-line-preserved c =
    let old = c.loop-line.invariant in
    let rec = c.in_ok-rec.ensures in
    let slot = c.args.slot.now in
    record {
      builds = search rules;
      within = grind (arith, common_steps, list_end_push);
      value = λ w reads.
          ap (filter_map (ospf_of w)) c.in_ok-put_ospf.ensures
          ∙ line_step (ospf_of w) (shape_into_ospf c.args.tracked.now c.args.file.now
          (prefix_of w c.args.dst.now c.args.len) (bgp_of w slot.bgp) (rib_of w slot.rib))
          c.loop-line.made _ c.args.lines.now c.loop-line.line-index c.line-item.result (omega arith) c.line-item.is
          (rec.value w reads) (old.value w (rec.builds.reads w reads));
    }
