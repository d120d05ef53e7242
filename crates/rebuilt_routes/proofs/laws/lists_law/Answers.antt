use Rattle.std.proofs.Common.{◌∙◌, ap}
use Rattle.std.specs.Prelude.{option_and_then}
use Rattle.route_record.specs.declared.Slot.{Slot}
use Rattle.rebuilt_routes.proofs.StableShapes.{lists_bounded}
use Rattle.rebuilt_routes.proofs.laws.lists_law.Goals as goal

pub returns : goal.returns
returns c tracked files destination failures environment tables len net limits stable below router slot held there holds =
    lists_bounded files destination failures environment tables stable len below tracked net limits router held
    (ap (option_and_then (λ (x : Slot). x.bgp)) there ∙ holds)
