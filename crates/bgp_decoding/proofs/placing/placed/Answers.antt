use Rattle.std.proofs.Common.{◌++◌, ◌+◌, ◌∙◌, List, Option, ap, arith, drop, map, option_map, sym}
use Rattle.route_shapes.specs.Bgp.{BgpShape}
use Rattle.plan_places.specs.declared.places.Place.{Place}
use Rattle.bgp_variables.specs.Environments.{peers_count}
use Rattle.path_rebuild.specs.declared.ShapeRec.{ShapeRec}
use Rattle.path_rebuild.specs.Shapes.{route_of}
use Rattle.bgp_decoding.specs.Placed.{thing_in}
use Rattle.bgp_decoding.proofs.Rows.{row_end, row_next}
use Rattle.bgp_decoding.proofs.placing.placed.Goals as goal

pub loop-p-preserved : goal.loop-p-preserved
loop-p-preserved c =
    let tracked = c.args.net.now.tracked in
    let rows = peers_count c.args.net.now.files in
    let read : Option ShapeRec → Option BgpShape = option_map (route_of tracked) in
    let there : Place → Option BgpShape = λ p. read (thing_in c.args.lens.now rows c.args.told.now p) in
    let k = c.loop-p.p-index in
    ap (λ (xs : List (Option ShapeRec)). map read xs ++ map there (drop (k + 1) c.args.places.now)) c.in_ok-push.ensures.items
    ∙ row_next read there c.args.places.now k _ c.loop-p.made.items c.placed_at.result c.loop-p-test.true
    (c.placed_at.ensures tracked rows c.requires.long)
    ∙ c.loop-p.invariant

pub returns : goal.returns
returns c =
    let tracked = c.args.net.now.tracked in
    let rows = peers_count c.args.net.now.files in
    let read : Option ShapeRec → Option BgpShape = option_map (route_of tracked) in
    sym (row_end (λ p. read (thing_in c.args.lens.now rows c.args.told.now p)) c.args.places.now c.loop-p.p-index
    (map read c.loop-p.made.items) (omega (arith, c.loop-p-test.false)))
    ∙ c.loop-p.invariant
