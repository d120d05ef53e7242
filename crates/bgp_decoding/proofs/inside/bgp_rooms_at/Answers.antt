use Rattle.std.proofs.Common.{◌++◌, ◌+◌, ◌∙◌, List, Option, ap, arith, drop, map, sym}
use Rattle.plan_places.specs.declared.places.Place.{Place}
use Rattle.bgp_variables.specs.declared.rooms.BgpRoom.{BgpRoom}
use Rattle.bgp_variables.specs.Rooms.{bgp_room}
use Rattle.bgp_decoding.proofs.Rows.{items_next, row_end}
use Rattle.bgp_decoding.proofs.inside.bgp_rooms_at.Goals as goal

pub loop-p-preserved : goal.loop-p-preserved
loop-p-preserved c =
    let room : Place → Option BgpRoom = λ p. bgp_room c.args.net.now.tracked c.args.net.now.files p.router p.len in
    let k = c.loop-p.p-index in
    ap (λ (xs : List (Option BgpRoom)). xs ++ map room (drop (k + 1) c.args.places.now)) c.in_ok-push.ensures.items
    ∙ items_next room c.args.places.now k _ c.loop-p.made.items c.in_ok-room.room c.loop-p-test.true
    c.in_ok-room.ensures
    ∙ c.loop-p.invariant

pub returns : goal.returns
returns c =
    let room : Place → Option BgpRoom = λ p. bgp_room c.args.net.now.tracked c.args.net.now.files p.router p.len in
    sym (row_end room c.args.places.now c.loop-p.p-index c.loop-p.made.items (omega (arith, c.loop-p-test.false)))
    ∙ c.loop-p.invariant
