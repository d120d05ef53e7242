use Rattle.std.proofs.Common.{◌++◌, ◌+◌, ◌∙◌, List, None, Option, ap, arith, drop, length, map, option_map, sym}
use Rattle.std.specs.Prelude.{if◌then◌else◌}
use Rattle.route_shapes.specs.Bgp.{BgpShape}
use Rattle.plan_places.specs.declared.places.Place.{Place}
use Rattle.slot_places.specs.Rooms.{can_be_used}
use Rattle.path_rebuild.specs.declared.ShapeRec.{ShapeRec}
use Rattle.path_rebuild.specs.Shapes.{route_of}
use Rattle.bgp_decoding.specs.Placed.{thing_in}
use Rattle.bgp_decoding.proofs.Rows.{row_end, row_next}
use Rattle.bgp_decoding.proofs.slots.held_routes.Goals as goal

pub loop-p-preserved : goal.loop-p-preserved
loop-p-preserved c =
    let files = c.args.net.now.files in
    let read : Option ShapeRec → Option BgpShape = option_map (route_of c.args.net.now.tracked) in
    let held : Place → Option BgpShape = λ p. if can_be_used files c.args.destinations.now p.router p.len
    then read (thing_in c.args.lens.now (length files) c.args.told.now p) else None in
    let k = c.loop-p.p-index in
    ap (λ (xs : List (Option ShapeRec)). map read xs ++ map held (drop (k + 1) c.args.places.now)) c.in_ok-push.ensures.items
    ∙ row_next read held c.args.places.now k _ c.loop-p.made.items c.held_at.result c.loop-p-test.true
    c.held_at.ensures
    ∙ c.loop-p.invariant

pub returns : goal.returns
returns c =
    let files = c.args.net.now.files in
    let read : Option ShapeRec → Option BgpShape = option_map (route_of c.args.net.now.tracked) in
    let held : Place → Option BgpShape = λ p. if can_be_used files c.args.destinations.now p.router p.len
    then read (thing_in c.args.lens.now (length files) c.args.told.now p) else None in
    sym (row_end held c.args.places.now c.loop-p.p-index (map read c.loop-p.made.items)
    (omega (arith, c.loop-p-test.false)))
    ∙ c.loop-p.invariant
