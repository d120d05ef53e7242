use Rattle.simulation.proofs.Opened.{start_ids}
use Rattle.simulation.proofs.opening_lines.read_start.Goals as goal

pub returns-in-Ok-start_by-clause-ids : goal.returns-in-Ok-start_by-clause-ids
returns-in-Ok-start_by-clause-ids c =
    start_ids c.args.net.now.files c.args.lines.now c.args.events.now c.in-Ok.said c.in-Ok-start_by.start
    c.in-Ok.ensures.ok c.in-Ok-start_by.ensures.ok
