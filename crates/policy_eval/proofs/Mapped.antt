-- What route maps make of a BGP route.
use Rattle.std.proofs.Common.{◌≡◌, ◌∙◌, refl, sym, ap, Option, Some, None}
use Rattle.std.specs.Option.{option_map}
use Rattle.std.specs.Prelude.{IfSome}
use Rattle.ios_ast.specs.Setting.{Attributes}
use Rattle.policy_eval.specs.Attributes.{KeepsRest, attributes_of}
use Rattle.policy_eval.specs.Routes.{as_map_rec, with_attributes}
use Rattle.route_record.proofs.OriginCodes.{code_back}
use Rattle.route_record.specs.declared.BgpRec.{BgpRec}
use Rattle.route_record.specs.declared.MapRec.{MapRec}

made_rest : (rec : BgpRec) (made : MapRec) → KeepsRest (as_map_rec rec) made
    → with_attributes rec (attributes_of made) ≡ made.bgp
made_rest rec made keeps =
    let from : rec.from ≡ made.bgp.from = sym keeps.from in
    let next_hop : rec.next_hop ≡ made.bgp.next_hop = sym keeps.next_hop in
    let originator : rec.originator ≡ made.bgp.originator = sym keeps.originator in
    let clusters : rec.clusters ≡ made.bgp.clusters = sym keeps.clusters in
    rw (from, next_hop, originator, clusters, code_back made.bgp.origin) refl

-- what is left of a route that a map made
pub map_law : (rec : BgpRec) (found : Option MapRec) (left : Option Attributes) →
    option_map attributes_of found ≡ left → IfSome found (KeepsRest (as_map_rec rec)) →
    option_map (λ made. made.bgp) found ≡ option_map (with_attributes rec) left
map_law rec None left is keeps = ap (option_map (with_attributes rec)) is
map_law rec (Some made) left is keeps =
    ap Some (sym (made_rest rec made keeps)) ∙ ap (option_map (with_attributes rec)) is
