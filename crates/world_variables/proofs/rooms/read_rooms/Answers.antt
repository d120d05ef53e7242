use Rattle.std.proofs.Common.{All, IfSome, Option, arith, subst}
use Rattle.std.proofs.lemmas.List.{take_all}
use Rattle.std.proofs.lemmas.List.Elements.{All-more}
use Rattle.slot_places.specs.declared.rooms.Room.{Room}
use Rattle.world_variables.specs.Unknowns.{HasWords}
use Rattle.world_variables.proofs.rooms.read_rooms.Goals as goal

pub loop-room-preserved : goal.loop-room-preserved
loop-room-preserved c =
    let within = c.loop-room-test.true in
    let last = c.loop-room.auto.room-index-end in
    All-more (λ (o : Option Room). IfSome o (λ r. HasWords r.metric)) c.args.rooms.now c.loop-room.room-index
    c.room-item.result (omega (arith, within, last)) c.loop-room.invariant
    (subst (λ (o : Option Room). IfSome o (λ r. HasWords r.metric)) c.room-item.is c.read_room.ensures)

pub returns : goal.returns
returns c =
    let past = c.loop-room-test.false in
    let last = c.loop-room.auto.room-index-end in
    subst (All (λ (o : Option Room). IfSome o (λ r. HasWords r.metric)))
    (take_all c.loop-room.room-index c.args.rooms.now (omega (arith, past, last))) c.loop-room.invariant
