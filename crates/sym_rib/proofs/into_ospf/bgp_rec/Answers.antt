use Rattle.std.proofs.Common.{Option, Some, None, ◌∙◌, ap, if◌then◌else◌}
use Rattle.sym_policy.specs.Held.{bgp_at}
use Rattle.sym_policy.specs.MapRecs.{attributes_at}
use Rattle.route_shapes.specs.Shapes.{RouteShape}
use Rattle.term_store.specs.declared.NodeId.{NodeId}
use Rattle.term_store.specs.Terms.{at}
use Rattle.sym_rib.proofs.HeldParts.{parts_within, parts_read}
use Rattle.sym_rib.proofs.Redistribution.{no_less, seen_bgp}
use Rattle.sym_rib.proofs.into_ospf.bgp_rec.Goals as goal

pub returns-clause-value : goal.returns-clause-value
returns-clause-value c = λ w reads.
    let plain = c.in_ok-plain in
    let put = c.put_held in
    let held = c.args.held.now in
    let made = attributes_at w put.result in
    let there : NodeId → Option RouteShape = λ id. if at w id then Some made else None in
    ap there put.ensures.valid
    ∙ seen_bgp c.args.tracked.now c.args.line.now (at w held.valid) (bgp_at w held)
    (attributes_at w plain.plain) made (plain.ensures.value w reads)
    (put.ensures.value w ∙ parts_read w held c.in_ok-parts.parts (attributes_at w plain.plain) c.in_ok-parts.ensures)

pub returns-clause-within : goal.returns-clause-within
returns-clause-within c =
    let plain = c.in_ok-plain.ensures in
    c.put_held.ensures.nodes _ plain.within
    (parts_within c.args.held.now c.in_ok-parts.parts _ c.in_ok-parts.ensures
    (no_less _ _ _ c.requires.nodes plain.builds.larger))
