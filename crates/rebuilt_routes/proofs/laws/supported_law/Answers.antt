use Rattle.std.proofs.Common.{◌≡◌, ◌∙◌, ap, true}
use Rattle.std.specs.Prelude.{option_and_then}
use Rattle.mw_text.specs.Address.{prefix_at}
use Rattle.net_parts.specs.Origins.{local_routes}
use Rattle.route_record.specs.declared.Slot.{Slot}
use Rattle.rebuilt_routes.proofs.RealSources.{all_members}
use Rattle.rebuilt_routes.proofs.StableShapes.{kept_held}
use Rattle.rebuilt_routes.proofs.laws.supported_law.Goals as goal

pub returns : goal.returns
returns c tracked files destination failures environment tables len P net limits stable below locals keeps router slot held there holds =
    kept_held files destination failures environment tables stable len below tracked net limits P
    (λ r rec is. all_members (λ x. P r x ≡ true)
    (local_routes files r is.file is.process (prefix_at destination len) is.slot)
    (locals r is.file is.process is.slot is.there is.runs is.holds) rec is.is) keeps router held
    (ap (option_and_then (λ (x : Slot). x.bgp)) there ∙ holds)
