use Rattle.std.proofs.Common.{List, Option, ◌++◌, ◌∙◌, ap, arith, sym}
use Rattle.std.proofs.lemmas.Grind.{common_steps}
use Rattle.std.specs.List.{filter_map}
use Rattle.std.specs.Option.{option_and_then, option_to_list}
use Rattle.ios_ast.specs.declared.ospf.DefaultOrigin.{DefaultOrigin}
use Rattle.route_record.specs.declared.OspfRec.{OspfRec}
use Rattle.net_parts.specs.Origins.{originated_default}
use Rattle.sym_policy.specs.Held.{ospf_of}
use Rattle.sym_policy.specs.Records.{prefix_of}
use Rattle.sym_rib.specs.Redistributed.{entry_slot}
use Rattle.sym_rib.specs.Slots.{rib_of}
use Rattle.sym_rib.proofs.OneEach.{filter_map_push, list_end_push}
use Rattle.sym_rib.proofs.into_ospf.with_default.Goals as goal

pub returns-in_ok-put_ospf-in-Some-clause-within : goal.returns-in_ok-put_ospf-in-Some-clause-within
returns-in_ok-put_ospf-in-Some-clause-within c = grind (arith, common_steps, list_end_push)

pub returns-in_ok-put_ospf-in-Some-clause-value : goal.returns-in_ok-put_ospf-in-Some-clause-value
returns-in_ok-put_ospf-in-Some-clause-value c = λ w reads.
    let held = entry_slot (rib_of w c.args.rib.now) in
    let p = prefix_of w c.args.dst.now c.args.len in
    let made = c.args.made in
    let before = filter_map (ospf_of w) made in
    let behind : Option OspfRec → List OspfRec = λ o. before ++ option_to_list o in
    let of_line : Option DefaultOrigin → List OspfRec =
    λ o. behind (option_and_then (originated_default p held) o) in
    ap (filter_map (ospf_of w)) c.in_ok-put_ospf-in-Some.ensures
    ∙ filter_map_push (ospf_of w) made c.in_ok-rec-in-Some.rec
    ∙ ap behind (c.in_ok-rec-in-Some.ensures.value w reads)
    ∙ ap of_line (sym c.in-Some.is)
