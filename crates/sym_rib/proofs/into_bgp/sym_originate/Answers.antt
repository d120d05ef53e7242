use Rattle.std.proofs.Common.{List, [], Option, ◌∙◌, ap, map, sym}
use Rattle.std.specs.Prelude.{slice_get}
use Rattle.std.specs.Option.{option_map_or}
use Rattle.ios_ast.specs.declared.file.File.{File}
use Rattle.route_record.specs.declared.BgpRec.{BgpRec}
use Rattle.net_parts.specs.Origins.{local_routes}
use Rattle.route_shapes.specs.Bgp.{bgp_shape}
use Rattle.sym_policy.specs.Records.{prefix_of}
use Rattle.route_shapes.specs.Shapes.{all_tracked}
use Rattle.bgp_shapes.proofs.TrackedLaw.{policies_tracked}
use Rattle.sym_rib.proofs.into_bgp.sym_originate.Goals as goal

pub returns-in_ok-made-in-Some-clause-value : goal.returns-in_ok-made-in-Some-clause-value
returns-in_ok-made-in-Some-clause-value c = λ w reads held stands.
    let files = c.args.net.now.files in
    let router = c.args.router in
    let file = c.in-Some.file.now in
    let p = prefix_of w c.args.dst.now c.args.len in
    let here = c.in-Some.ensures ∙ ap (λ fs. slice_get fs router) c.routers.ensures.all in
    let same = c.tracked.ensures.value in
    let all = ap (λ t. all_tracked t file.policies) same ∙ policies_tracked files c.args.net.now.tracked
    c.tracked.ensures.tracks router file (sym here) in
    let of_file : File → List BgpRec =
    λ f. option_map_or (λ process. local_routes files router f process p held) f.bgp [] in
    let taken : Option File → List BgpRec = λ o. option_map_or of_file o [] in
    c.in_ok-made-in-Some.ensures.value w reads held all stands
    ∙ ap (λ t. map (bgp_shape t) (of_file file)) same
    ∙ ap (λ o. map (bgp_shape c.args.net.now.tracked) (taken o)) here
