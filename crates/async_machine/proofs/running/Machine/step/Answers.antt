use Rattle.machine_laws.proofs.Reached.{reached_either, reached_sound}
use Rattle.async_machine.proofs.Taken.{has_channels}
use Rattle.async_machine.proofs.running.Machine.step.Goals as goal

pub take-requires-clause-channels : goal.take-requires-clause-channels
take-requires-clause-channels c =
    let m = c.self.inside in
    has_channels m.net.files m.destination m.state
    (reached_sound m.net.files m.destination m.state c.self.invariant.reached)

pub invariant_of-self : goal.invariant_of-self
invariant_of-self c =
    let m = c.self.inside in record {
      reached = reached_either m.net.files m.destination m.state c.take.new.state c.args.event c.take.result
          c.self.invariant.reached c.take.ensures.takes.ok c.take.ensures.takes.unchanged;
      underlay = c.take.ensures.underlay;
      known = c.take.ensures.known;
    }
