use Rattle.run_inputs.proofs.Simulating.{led_over}
use Rattle.run_inputs.proofs.events.parse_simulation.Goals as goal

pub returns-clause-ok : goal.returns-clause-ok
returns-clause-ok c =
    led_over c.take_events.result c.args.texts.now c.args.events.now c.in_ok-net.net.files c.in_ok-net.ensures.ok
    c.take_events.ensures.ok
