use Rattle.std.proofs.Common.{subst}
use Rattle.std.specs.Prelude.{IfOk}
use Rattle.std.specs.Bool.{Decides}
use Rattle.std.specs.Option.{is_none}
use Rattle.machine_laws.specs.Quiet.{IsQuiet}
use Rattle.machine_laws.proofs.Reached.{reached_sound}
use Rattle.async_machine.specs.Runs.{Run}
use Rattle.async_machine.proofs.Taken.{has_channels, none_tells}
use Rattle.async_machine.proofs.running.Machine.next.Goals as goal

pub next_event-requires-clause-channels : goal.next_event-requires-clause-channels
next_event-requires-clause-channels c =
    let m = c.self.inside in
    has_channels m.net.files m.destination m.state
    (reached_sound m.net.files m.destination m.state c.self.invariant.reached)

pub next_event-requires-clause-size : goal.next_event-requires-clause-size
next_event-requires-clause-size c =
    let m = c.self.inside in (reached_sound m.net.files m.destination m.state c.self.invariant.reached).slots

pub returns-clause-none : goal.returns-clause-none
returns-clause-none c =
    let m = c.self.inside in
    let Tells = λ (r : Run). IfOk c.next_event.result
    (λ next. Decides (is_none next) (IsQuiet r.net.files r.destination r.state)) in
    subst Tells c.self.view_is
    (none_tells m.net.files m.destination m.state c.next_event.result c.next_event.ensures)
