use Rattle.std.proofs.Common.{length}
use Rattle.machine_laws.specs.Quiet.{is_unsettled_at}
use Rattle.machine_decisions.proofs.Places.{begins}
use Rattle.machine_decisions.proofs.settled.first_unsettled.Goals as goal

pub loop-place-init : goal.loop-place-init
loop-place-init c =
    begins (is_unsettled_at c.args.net.now.files c.args.d c.args.state.now) (length c.args.state.now.tables.slots)
