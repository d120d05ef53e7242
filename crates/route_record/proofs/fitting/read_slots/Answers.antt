use Rattle.std.proofs.Common.{All, arith, subst}
use Rattle.std.proofs.lemmas.List.{take_all}
use Rattle.std.proofs.lemmas.List.Elements.{All-more}
use Rattle.route_record.specs.Fits.{FitsSlot}
use Rattle.route_record.proofs.fitting.read_slots.Goals as goal

pub loop-slot-preserved : goal.loop-slot-preserved
loop-slot-preserved c =
    let within = c.loop-slot-test.true in
    let last = c.loop-slot.auto.slot-index-end in
    All-more FitsSlot c.args.slots.now c.loop-slot.slot-index _ (omega (arith, within, last)) c.loop-slot.invariant
    (subst FitsSlot c.slot-item.is c.read_slot.ensures)

pub returns : goal.returns
returns c =
    let past = c.loop-slot-test.false in
    let last = c.loop-slot.auto.slot-index-end in
    subst (All FitsSlot) (take_all c.loop-slot.slot-index c.args.slots.now (omega (arith, past, last)))
    c.loop-slot.invariant
