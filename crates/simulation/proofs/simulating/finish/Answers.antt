use Rattle.simulation.proofs.Ends.{told_from}
use Rattle.simulation.proofs.simulating.finish.Goals as goal

pub returns-clause-ok : goal.returns-clause-ok
returns-clause-ok c =
    told_from c.args.machine.now.net c.take_lines.new.machine.net c.args.machine.now.destination
    c.take_lines.new.machine.destination c.args.machine.now.state c.take_lines.new.machine.state c.args.events.now
    c.in_ok-told.field-0 c.in_ok-take_lines.ensures.ok c.take_lines.ensures.net c.take_lines.ensures.destination
    c.in_ok-told.ensures
