use Rattle.std.proofs.Common.{ap, sym, ◌∙◌, option_copied}
use Rattle.std.specs.Option.{option_and_then, option_map}
use Rattle.mw_text.proofs.Results.{ok_then}
use Rattle.bgp_shapes.specs.Candidates.{ShapeSlot}
use Rattle.bgp_shapes.specs.Exporting.{shape_exported}
use Rattle.sym_policy.specs.Held.{bgp_of}
use Rattle.sym_policy.specs.Records.{prefix_of}
use Rattle.sym_policy.specs.MapRecs.{HasTracked}
use Rattle.sym_rib.proofs.SlotPlaces.{placed_all}
use Rattle.bgp_equations.specs.Equations.{slot_read}
use Rattle.bgp_equations.proofs.messages.exported.Goals as goal

pub sym_export-requires-clause-marks : goal.sym_export-requires-clause-marks
sym_export-requires-clause-marks c =
    let routing = c.args.routing.now in
    let t = routing.tables.now in
    placed_all (λ s. HasTracked routing.net.now.tracked s.bgp) t.lens.now t.routers t.slots.now c.args.far.now.router
    routing.len c.in-Some.slot.now (sym c.slot_for.ensures.place ∙ ap option_copied c.in-Some.is) c.requires.rows

pub returns-in-None-clause-value : goal.returns-in-None-clause-value
returns-in-None-clause-value c =
    let routing = c.args.routing.now in
    ok_then c.nothing.result c.nothing.ensures.value (λ r is w reads.
    is w reads
    ∙ ap (λ o. option_and_then (shape_exported routing.net.now.tracked routing.net.now.files c.args.far.now
    (prefix_of w routing.dst.now routing.len)) (option_and_then (λ (slot : ShapeSlot). slot.bgp)
    (option_map (slot_read w) o)))
    (sym (sym c.slot_for.ensures.place ∙ ap option_copied c.in-None.is)))

pub returns-in-Some-clause-value : goal.returns-in-Some-clause-value
returns-in-Some-clause-value c =
    let routing = c.args.routing.now in
    ok_then c.sym_export.result c.sym_export.ensures.value (λ r is w reads.
    is w reads
    ∙ (λ i. option_and_then (λ s. option_and_then (λ at. shape_exported routing.net.now.tracked routing.net.now.files at
    (prefix_of w routing.dst.now routing.len) s) (c.requires.there i)) (bgp_of w c.in-Some.slot.now.bgp))
    ∙ ap (λ o. option_and_then (shape_exported routing.net.now.tracked routing.net.now.files c.args.far.now
    (prefix_of w routing.dst.now routing.len)) (option_and_then (λ (slot : ShapeSlot). slot.bgp)
    (option_map (slot_read w) o)))
    (sym (sym c.slot_for.ensures.place ∙ ap option_copied c.in-Some.is)))
