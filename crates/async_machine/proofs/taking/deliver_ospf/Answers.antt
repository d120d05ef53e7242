use Rattle.std.proofs.Common.{refl}
use Rattle.machine_laws.specs.declared.state.Event.TheVariants.{DeliverOspf}
use Rattle.machine_laws.specs.Events.{after}
use Rattle.async_machine.proofs.Taken.{delivered}
use Rattle.async_machine.proofs.taking.deliver_ospf.Goals as goal

pub returns-clause-takes : goal.returns-clause-takes
unfolding after
returns-clause-takes c =
    delivered c.args.net.now.files c.args.d (DeliverOspf c.args.at)
    (λ channels. record c.args.state.now { adjacencies = channels }) c.args.state.now.adjacencies c.deliver_at.new.channels c.args.at
    c.deliver_at.result refl c.deliver_at.ensures.value c.deliver_at.ensures.unchanged
