use Rattle.std.proofs.Common.{arith}
use Rattle.bgp_values.proofs.RowSteps.{width_end, width_next}
use Rattle.bgp_values.proofs.rows.routes_end.Goals as goal

pub loop-room-preserved : goal.loop-room-preserved
loop-room-preserved c =
    let width = width_next c.args.rooms.now c.loop-room.room-index c.room-item.result c.loop-room-test.true c.room-item.is in
    let size = c.room_size-at.ensures in
    let before = c.loop-room.invariant in
    omega (arith, width, size, before)

pub returns : goal.returns
returns c =
    let past = c.loop-room-test.false in
    let none = width_end c.args.rooms.now c.loop-room.room-index (omega (arith, past)) in
    let before = c.loop-room.invariant in
    omega (arith, none, before)
