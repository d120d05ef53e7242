use Rattle.std.proofs.Common.{◌∙◌, ◌+◌, ◌++◌, ◌∷◌, [], ℕ, List, Option, ap, arith, drop, map, option_map, sym}
use Rattle.std.proofs.lemmas.List.{map-append}
use Rattle.term_store.specs.Terms.{truth}
use Rattle.route_shapes.specs.Bgp.{BgpShape}
use Rattle.bgp_variables.specs.Shapes.{bgp_from}
use Rattle.bgp_values.specs.Told.{as_told}
use Rattle.path_rebuild.specs.declared.ShapeRec.{ShapeRec}
use Rattle.path_rebuild.specs.Shapes.{route_of}
use Rattle.bgp_values.proofs.RowSteps.{routes_done, routes_next, told_from, width_next}
use Rattle.bgp_values.proofs.rows.routes_at.Goals as goal

pub loop-room-preserved : goal.loop-room-preserved
loop-room-preserved c =
    let rooms = c.args.rooms.now in
    let k = c.loop-room.room-index in
    let room = c.room-item.result in
    let v = truth c.args.values.now in
    let at = c.loop-room.at in
    let made = c.loop-room.made.items in
    let read : Option ShapeRec → Option BgpShape = option_map (route_of c.args.tracked.now) in
    let said = option_map as_told (bgp_from room v at) in
    let width = width_next rooms k room c.loop-room-test.true c.room-item.is in
    let size = c.room_size-at.ensures in
    let rest : List (Option BgpShape) → ℕ → List (Option BgpShape) = λ xs n. xs ++ told_from (drop (k + 1) rooms) v n in (
      omega (arith, width, size, c.loop-room.invariant.0),
      ap (λ xs. rest (map read xs) (at + c.room_size-at.result)) c.in_ok-push.ensures.items
          ∙ ap (λ xs. rest xs (at + c.room_size-at.result)) (map-append read made (c.route_at.result ∷ []))
          ∙ ap (λ o. rest (map read made ++ o ∷ []) (at + c.room_size-at.result)) c.route_at.ensures
          ∙ ap (λ n. rest (map read made ++ said ∷ []) (at + n)) size
          ∙ routes_next rooms k room v at (map read made) c.loop-room-test.true c.room-item.is
          ∙ c.loop-room.invariant.1,
    )

pub returns : goal.returns
returns c =
    let read : Option ShapeRec → Option BgpShape = option_map (route_of c.args.tracked.now) in
    sym (routes_done c.args.rooms.now c.loop-room.room-index (truth c.args.values.now) c.loop-room.at
    (map read c.loop-room.made.items) (omega (arith, c.loop-room-test.false)))
    ∙ c.loop-room.invariant.1
