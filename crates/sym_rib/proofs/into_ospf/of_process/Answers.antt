use Rattle.std.proofs.Common.{List, ◌++◌, ◌∙◌, ap}
use Rattle.std.specs.List.{filter_map}
use Rattle.std.specs.Option.{option_and_then, option_to_list}
use Rattle.route_record.specs.declared.OspfRec.{OspfRec}
use Rattle.net_parts.specs.Origins.{originated_default}
use Rattle.sym_policy.specs.Held.{bgp_of}
use Rattle.sym_policy.specs.Records.{prefix_of}
use Rattle.sym_rib.specs.Redistributed.{entry_slot, shape_into_ospf, shape_redistributed}
use Rattle.sym_rib.specs.Slots.{rib_of}
use Rattle.sym_rib.proofs.into_ospf.of_process.Goals as goal

pub returns-clause-value : goal.returns-clause-value
unfolding shape_redistributed
returns-clause-value c = λ w reads.
    let whole = c.in_ok-all.ensures in
    let slot = c.args.slot.now in
    let p = prefix_of w c.args.dst.now c.args.len in
    let given = entry_slot (rib_of w slot.rib) in
    let with_last : List OspfRec → List OspfRec =
    λ l. l ++ option_to_list (option_and_then (originated_default p given) c.args.process.now.default) in
    let of_lines = filter_map (shape_into_ospf c.args.tracked.now c.args.file.now p (bgp_of w slot.bgp)
    (rib_of w slot.rib)) in
    whole.value w reads
    ∙ ap with_last (c.in_ok-made.ensures.value w (whole.builds.reads w reads) ∙ ap of_lines c.as_slice-lines.ensures)
