use Rattle.std.proofs.Common.{arith, ap, ◌∙◌}
use Rattle.std.specs.Prelude.{option_and_then, option_map, slice_get}
use Rattle.mw_text.specs.Address.{prefix_at}
use Rattle.route_shapes.specs.Bgp.{BgpShape}
use Rattle.term_store.specs.Terms.{at, size}
use Rattle.sym_policy.specs.Held.{failures_of}
use Rattle.sym_policy.specs.Records.{address_of}
use Rattle.sym_rib.specs.Sources.{entry_from}
use Rattle.world_variables.specs.Slots.{entry_of_bit}
use Rattle.routing_encoder.proofs.SlotSteps.{learnt_is}
use Rattle.routing_encoder.proofs.slots.open_slot.Goals as goal

pub returns-clause-within : goal.returns-clause-within
returns-clause-within c =
    let part = c.requires.part in
    let first = c.slot_of.ensures.builds.larger in
    let second = c.negate.ensures.builds.larger in
    let third = c.sym_entry.ensures.builds.larger in
    let before = c.in_ok-before.ensures.within in
    let put = c.with_dynamic.ensures.within (size c.sym_entry.new.terms) c.in_ok-rib.ensures.within
    (omega (arith, part, first, second, third)) in
    omega (arith, before, second, third, put)

pub returns-clause-value : goal.returns-clause-value
returns-clause-value c = λ w reads.
    let towards = c.args.towards.now in
    let files = towards.net.now.files in
    let router = c.args.p.router in
    let p = prefix_at (address_of w towards.dst.now) c.args.p.len in
    let dynamic = at w c.args.part.now.dynamic in
    let r2 = c.sym_entry.ensures.builds.reads w reads in
    let r1 = c.negate.ensures.builds.reads w r2 in
    let ospf = c.in_ok-before.ensures.ospf w r1 in
    let bgp = c.in_ok-before.ensures.bgp w r1 in
    let learnt = learnt_is w c.in_ok-before.before.bgp ∙ ap (option_map (λ (s : BgpShape). s.from)) bgp in
    let own = c.in_ok-own.ensures.value w r2 in
    let entry = c.in_ok-rib.ensures.value w reads
    ∙ (λ i. option_and_then (λ file. entry_from files (failures_of w towards.sym.now) router file p (learnt i) (ospf i)
    (own i)) (slice_get files router)) in
    let rib = c.with_dynamic.ensures.value w (c.in_ok-rib.ensures.numbered w reads)
    ∙ ap (option_map (entry_of_bit dynamic)) entry in
    λ i. record { ospf = ospf i; bgp = bgp i; rib = rib i }
