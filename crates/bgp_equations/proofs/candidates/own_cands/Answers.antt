use Rattle.std.proofs.Common.{ap, map, refl, None, [], ◌∙◌}
use Rattle.std.specs.List.{filter_map}
use Rattle.std.specs.Option.{option_map_or}
use Rattle.mw_text.proofs.Results.{ok_then}
use Rattle.mw_text.specs.declared.address.Addr.{Addr}
use Rattle.route_record.specs.declared.Slot.{Slot}
use Rattle.net_parts.specs.Exports.{router_id}
use Rattle.net_parts.specs.Origins.{local_routes}
use Rattle.route_shapes.specs.Bgp.{bgp_shape}
use Rattle.bgp_shapes.specs.Candidates.{shape_local_routes}
use Rattle.sym_policy.specs.Held.{bgp_of, ospf_of}
use Rattle.sym_policy.specs.Records.{prefix_of}
use Rattle.sym_rib.specs.Slots.{rib_of}
use Rattle.bgp_equations.specs.Equations.{local_with, slot_read}
use Rattle.bgp_equations.proofs.candidates.own_cands.Goals as goal

pub returns-clause-value : goal.returns-clause-value
returns-clause-value c =
    let routing = c.args.routing.now in
    ok_then c.local_cands.result c.local_cands.ensures.value (λ r is w reads file process found runs.
    let own = c.in_ok-own.ensures in
    let files = routing.net.now.files in
    let p = prefix_of w routing.dst.now routing.len in
    let held : Slot = record {
      ospf = ospf_of w c.args.slot.now.ospf;
      bgp = None;
      rib = rib_of w c.args.slot.now.rib;
    } in
    is w reads
    ∙ ap (λ xs. map (local_with c.in_ok-id.id.0) (filter_map (bgp_of w) xs)) c.as_slice.ensures
    ∙ ap (map (local_with c.in_ok-id.id.0))
    (own.value w (c.local_cands.ensures.builds.reads w reads) held (record { ospf = refl; rib = refl })
    ∙ ap (map (bgp_shape routing.net.now.tracked))
    ((λ i. option_map_or (λ f. option_map_or (λ pr. local_routes files c.args.router f pr p held) f.bgp []) (found i) [])
    ∙ (λ i. option_map_or (λ pr. local_routes files c.args.router file pr p held) (runs i) [])))
    ∙ ap (λ (a : Addr). map (local_with a.0) (shape_local_routes routing.net.now.tracked files c.args.router file process
    p (slot_read w c.args.slot.now)))
    (c.in_ok-id.ensures ∙ ap (λ fs. router_id fs c.args.router) c.routers.ensures.all))
