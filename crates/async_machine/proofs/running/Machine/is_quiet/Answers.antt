use Rattle.machine_laws.proofs.Reached.{reached_sound}
use Rattle.async_machine.proofs.Taken.{has_channels}
use Rattle.async_machine.proofs.running.Machine.is_quiet.Goals as goal

pub next_event-requires-clause-channels : goal.next_event-requires-clause-channels
next_event-requires-clause-channels c =
    let m = c.self.inside in
    has_channels m.net.files m.destination m.state
    (reached_sound m.net.files m.destination m.state c.self.invariant.reached)

pub next_event-requires-clause-size : goal.next_event-requires-clause-size
next_event-requires-clause-size c =
    let m = c.self.inside in (reached_sound m.net.files m.destination m.state c.self.invariant.reached).slots
