use Rattle.sym_rib.proofs.SlotPlaces.{slot_bounded}
use Rattle.sym_rib.proofs.places.slot_for.Goals as goal

pub returns-clause-within : goal.returns-clause-within
returns-clause-within c =
    let tables = c.args.tables.now in
    slot_bounded tables.lens.now tables.routers tables.slots.now c.args.router c.args.len c.slot_there.result
    c.slot_there.ensures
