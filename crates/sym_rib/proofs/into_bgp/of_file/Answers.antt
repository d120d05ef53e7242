use Rattle.std.proofs.Common.{List, [], Option, ◌∙◌, ap, map, sym}
use Rattle.std.specs.Option.{option_map_or}
use Rattle.ios_ast.specs.declared.bgp.Bgp.{Bgp}
use Rattle.net_parts.specs.Origins.{local_routes}
use Rattle.route_shapes.specs.Bgp.{BgpShape, bgp_shape}
use Rattle.sym_policy.specs.Records.{prefix_of}
use Rattle.sym_rib.proofs.into_bgp.of_file.Goals as goal

pub returns-in_ok-made-in-Some-clause-value : goal.returns-in_ok-made-in-Some-clause-value
returns-in_ok-made-in-Some-clause-value c = λ w reads held all stands.
    let lookup = c.args.lookup.now in
    let p = prefix_of w lookup.dst.now lookup.len in
    let made : Option Bgp → List BgpShape =
    λ o. map (bgp_shape c.args.tracked.now) (option_map_or
    (λ process. local_routes lookup.net.now.files lookup.router lookup.file.now process p held) o []) in
    c.in_ok-made-in-Some.ensures.value w reads held all stands ∙ ap made (sym c.in-Some.is)
