use Rattle.std.proofs.Common.{List, [], Option, ◌∙◌, ap, sym}
use Rattle.std.specs.Option.{option_map_or}
use Rattle.ios_ast.specs.declared.ospf.Ospf.{Ospf}
use Rattle.route_record.specs.declared.OspfRec.{OspfRec}
use Rattle.sym_policy.specs.Held.{bgp_of}
use Rattle.sym_policy.specs.Records.{prefix_of}
use Rattle.sym_rib.specs.Redistributed.{shape_redistributed}
use Rattle.sym_rib.specs.Slots.{rib_of}
use Rattle.sym_rib.proofs.into_ospf.of_file.Goals as goal

pub returns-in_ok-made-in-Some-clause-value : goal.returns-in_ok-made-in-Some-clause-value
returns-in_ok-made-in-Some-clause-value c = λ w reads.
    let slot = c.args.slot.now in
    let taken : Option Ospf → List OspfRec =
    λ o. option_map_or (λ process. shape_redistributed c.args.tracked.now c.args.file.now process
    (prefix_of w c.args.dst.now c.args.len) (bgp_of w slot.bgp) (rib_of w slot.rib)) o [] in
    c.in_ok-made-in-Some.ensures.value w reads ∙ ap taken (sym c.in-Some.is)
