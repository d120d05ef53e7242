use Rattle.std.proofs.Common.{◌+◌, List, subst, sym}
use Rattle.sym_forwarding.specs.declared.forwarding.SymForwarding.{SymForwarding}
use Rattle.sym_forwarding.specs.Symbolic.{table_of}
use Rattle.sym_walk.specs.TwinTables.{AreTwins}
use Rattle.sym_rib.specs.Worlds.{read_world}
use Rattle.sym_walk.proofs.PushedTwins.{twins_pushed}
use Rattle.sym_walk.proofs.routers.add_router.Goals as goal

pub returns-clause-value : goal.returns-clause-value
returns-clause-value c = λ w reads needed twins.
    let stop = c.args.stop.now in
    let net = stop.net.now.files in
    let world = read_world w stop.sym.now stop.packet.now stop.tables.now in
    let P : List SymForwarding → Type 0 = λ t. AreTwins net world c.args.kind (stop.router + 1) (table_of w t) in
    subst P (sym c.in_ok-made.ensures)
    (twins_pushed w net world c.args.kind stop.router c.args.table c.in_ok-one.one twins (c.in_ok-one.ensures.value w
    reads needed))
