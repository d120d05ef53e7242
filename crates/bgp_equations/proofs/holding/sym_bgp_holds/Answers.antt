use Rattle.std.proofs.Common.{ap, Bool, false, sym, ◌∙◌, option_copied, slice_get}
use Rattle.std.specs.Option.{option_map, option_map_or}
use Rattle.mw_text.proofs.Results.{ok_then}
use Rattle.ios_ast.specs.declared.file.File.{File}
use Rattle.bgp_shapes.specs.Candidates.{ShapeSlot}
use Rattle.rebuilt_routes.specs.Deciding.{is_decided_shape}
use Rattle.sym_policy.specs.Held.{failures_of}
use Rattle.sym_policy.specs.Records.{prefix_of}
use Rattle.sym_policy.specs.MapRecs.{HasTracked}
use Rattle.sym_rib.proofs.SlotPlaces.{placed_all}
use Rattle.bgp_equations.specs.Environments.{environment_read}
use Rattle.bgp_equations.specs.Equations.{sending_read, slot_read, slots_read}
use Rattle.bgp_equations.proofs.holding.sym_bgp_holds.Goals as goal

pub file_holds-requires-clause-row : goal.file_holds-requires-clause-row
file_holds-requires-clause-row c =
    let routing = c.args.routing.now in
    let t = routing.tables.now in
    placed_all (λ s. HasTracked routing.net.now.tracked s.bgp) t.lens.now t.routers t.slots.now
    c.args.router routing.len
    c.in-Some-slot_for.slot.now (sym c.slot_for.ensures.place ∙ ap option_copied c.in-Some-slot_for.is) c.requires.rows

pub returns-in-Some-slot_for-clause-value : goal.returns-in-Some-slot_for-clause-value
returns-in-Some-slot_for-clause-value c =
    ok_then c.file_holds.result c.file_holds.ensures.value (λ r is w reads has.
    let routing = c.args.routing.now in
    let files = routing.net.now.files in
    let slots = slots_read w routing.tables.now routing.len in
    let others = sending_read w files routing.tables.now routing.len in
    let decided : File → ShapeSlot → Bool = λ f slot. is_decided_shape routing.net.now.tracked files
    (failures_of w routing.sym.now) (environment_read w files routing.tables.now.lens.now
    routing.env.now) others
    c.args.router f (prefix_of w routing.dst.now routing.len) slot.bgp in
    let placed = sym c.slot_for.ensures.place ∙ ap option_copied c.in-Some-slot_for.is in
    is w reads has
    ∙ ap (λ o. option_map_or (decided c.in-Some.file.now) (option_map (slot_read w) o) false) (sym placed)
    ∙ ap (λ o. option_map_or (λ f. option_map_or (decided f) (slots c.args.router) false) o false)
    (c.in-Some.ensures ∙ ap (λ fs. slice_get fs c.args.router) c.routers.ensures.all))
