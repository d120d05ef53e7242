use Rattle.log_checker.proofs.entries.take_entry.Goals as goal

pub returns-in-Some : goal.returns-in-Some
returns-in-Some c = rw c.in-Some.is at (c.in_ok-cause.ensures.some c.args.checker.now)
