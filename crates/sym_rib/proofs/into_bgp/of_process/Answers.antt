use Rattle.std.proofs.Common.{◌++◌, ◌∙◌, ap, ap₂, map, sym}
use Rattle.std.specs.List.{filter_map}
use Rattle.std.proofs.lemmas.List.{map-append}
use Rattle.net_parts.specs.Origins.{by_network, into_bgp, local_routes}
use Rattle.route_shapes.specs.Bgp.{bgp_shape}
use Rattle.sym_policy.specs.Records.{prefix_of}
use Rattle.sym_rib.proofs.into_bgp.of_process.Goals as goal

pub returns-clause-value : goal.returns-clause-value
unfolding local_routes
returns-clause-value c = λ w reads held all stands.
    let whole = c.in_ok-all.ensures in
    let lookup = c.args.lookup.now in
    let p = prefix_of w lookup.dst.now lookup.len in
    let shape = bgp_shape c.args.tracked.now in
    let process = c.args.process.now in
    let of_network = by_network lookup.file.now p held in
    let of_line = into_bgp lookup.net.now.files lookup.router lookup.file.now p held in
    whole.value w reads held all stands
    ∙ ap₂ (λ a b. a ++ b)
    (c.in_ok-made.ensures.value w (whole.builds.reads w reads) held all stands
    ∙ ap (λ lines. map shape (filter_map of_network lines)) c.as_slice-networks.ensures)
    (ap (λ lines. map shape (filter_map of_line lines)) c.as_slice-lines.ensures)
    ∙ sym (map-append shape (filter_map of_network process.networks) (filter_map of_line process.redistribute))
