use Rattle.std.proofs.Common.{List, arith, subst, sym}
use Rattle.question_lang.specs.declared.walk.Hop.{Hop}
use Rattle.sym_forwarding.specs.Aims.{sought_by}
use Rattle.sym_walk.specs.Distances.{DistancesIfNeeded}
use Rattle.sym_walk.specs.Entries.{by_entry}
use Rattle.sym_forwarding.specs.Symbolic.{forwarding_of}
use Rattle.sym_forwarding.specs.Twins.{IsTwin}
use Rattle.sym_rib.specs.Worlds.{read_world}
use Rattle.sym_rib.proofs.SlotPlaces.{placed_all}
use Rattle.sym_walk.proofs.EntryHops.{longer_missing, longer_there}
use Rattle.sym_walk.proofs.longest.sym_longer.Goals as goal

pub returns-in-None-clause-value : goal.returns-in-None-clause-value
returns-in-None-clause-value c = λ w reads needed shorter twin.
    let stop = c.args.stop.now in
    let world = read_world w stop.sym.now stop.packet.now stop.tables.now in
    let P : List Hop → Type 0 = λ hs. IsTwin (sought_by w c.args.aim.now) hs (forwarding_of w c.args.rest) in
    subst P
    (longer_missing w stop.net.now.files world stop.router c.args.file.now stop.tables.now c.args.len shorter
    (omega arith) (sym c.in-None.ensures.place)) twin

pub returns-in_ok-made-in-Some-clause-value : goal.returns-in_ok-made-in-Some-clause-value
returns-in_ok-made-in-Some-clause-value c = λ w reads needed shorter twin.
    let stop = c.args.stop.now in
    let net = stop.net.now.files in
    let tables = stop.tables.now in
    let world = read_world w stop.sym.now stop.packet.now stop.tables.now in
    let P : List Hop → Type 0 = λ hs. IsTwin (sought_by w c.args.aim.now) hs (forwarding_of w
    c.in_ok-made-in-Some.made) in
    subst P
    (longer_there w net world stop.router c.args.file.now stop.tables.now c.args.len c.in-Some.slot.now shorter
    (omega arith) (sym c.in-Some.ensures.place))
    (c.in_ok-made-in-Some.ensures.value w reads
    (placed_all (DistancesIfNeeded w net stop.sym.now) tables.lens.now tables.routers tables.slots.now stop.router
    c.args.len c.in-Some.slot.now (sym c.in-Some.ensures.place) needed)
    (by_entry net world stop.router c.args.file.now shorter) twin)
