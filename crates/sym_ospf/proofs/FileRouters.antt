-- A router that originates a prefix is one of the files.
use Rattle.std.proofs.Common.{◌≡◌, ℕ, ◌<◌, List, length, Some, subst}
use Rattle.std.specs.Prelude.{◌==◌, ◌&&◌}
use Rattle.std.proofs.lemmas.Bool.{and_parts, eqb-true}
use Rattle.mw_text.specs.declared.address.Prefix.{Prefix}
use Rattle.mw_text.specs.Address.{same_prefix}
use Rattle.ios_ast.specs.declared.file.File.{File}
use Rattle.route_record.specs.declared.Failures.{Failures}
use Rattle.net_parts.specs.declared.ospf.OspfInterface.{OspfInterface}
use Rattle.net_parts.specs.Distances.{own_cost}
use Rattle.net_parts.specs.Ospf.{advertisement, origin_interfaces, ospf_interfaces}
use Rattle.net_parts.specs.World.{is_up}
use Rattle.net_parts.proofs.LeastWalks.{in-filter, in-map, interface_below, least-is}

pub own_within : (files : List File) (failures : Failures) (p : Prefix) (router m : ℕ)
    → own_cost files failures p router ≡ Some m → router < length files
unfolding own_cost
own_within files failures p router m is =
    let one = in-map (λ (x : OspfInterface). x.cost) (origin_interfaces files failures router p) m
    (least-is _ m is) in
    let kept = in-filter (λ (x : OspfInterface). (x.at.id.router == router)
    && (same_prefix (advertisement x) p && is_up files failures x.at)) (ospf_interfaces files) one.0 one.1 in
    let below = interface_below files one.0 kept.0 in
    let same = eqb-true one.0.at.id.router router (and_parts _ _ kept.1).0 in
    let P : ℕ → Type 0 = λ r. r < length files in
    subst P same below
