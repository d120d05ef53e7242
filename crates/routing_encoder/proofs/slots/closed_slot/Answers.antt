use Rattle.std.proofs.Common.{ap, ◌∙◌}
use Rattle.std.specs.Prelude.{option_and_then, option_map, slice_get}
use Rattle.mw_text.specs.Address.{prefix_at}
use Rattle.route_shapes.specs.Bgp.{BgpShape}
use Rattle.sym_policy.specs.Held.{bgp_of, failures_of}
use Rattle.sym_policy.specs.Records.{address_of}
use Rattle.sym_rib.specs.Sources.{entry_from}
use Rattle.routing_encoder.proofs.SlotSteps.{closed_shape, learnt_is}
use Rattle.routing_encoder.proofs.slots.closed_slot.Goals as goal

pub returns-clause-value : goal.returns-clause-value
returns-clause-value c = λ w reads u.
    let towards = c.args.towards.now in
    let files = towards.net.now.files in
    let router = c.args.p.router in
    let p = prefix_at (address_of w towards.dst.now) c.args.p.len in
    let r2 = c.sym_entry.ensures.builds.reads w reads in
    let r1 = c.constant_node.ensures.builds.reads w r2 in
    let r0 = c.slot_of.ensures.builds.reads w r1 in
    let ospf = c.in_ok-before.ensures.ospf w r1 ∙ c.in_ok-none.ensures.value w r0 in
    let bgp = c.in_ok-before.ensures.bgp w r1 in
    let learnt = learnt_is w c.in_ok-before.before.bgp ∙ ap (option_map (λ (s : BgpShape). s.from)) bgp in
    let own = c.in_ok-own.ensures.value w r2 in
    let rib = c.in_ok-rib.ensures.value w reads
    ∙ (λ i. option_and_then (λ file. entry_from files (failures_of w towards.sym.now) router file p (learnt i) (ospf i)
    (own i)) (slice_get files router)) in
    closed_shape files (failures_of w towards.sym.now) (address_of w towards.dst.now) c.args.p u
    (bgp_of w c.args.route.now) _ (λ i. record { ospf = ospf i; bgp = bgp i; rib = rib i })
