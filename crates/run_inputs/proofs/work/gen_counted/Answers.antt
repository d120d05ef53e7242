use Rattle.std.proofs.Common.{None, Some}
use Rattle.run_inputs.proofs.Commands.{counted, works_as, works_none}
use Rattle.run_inputs.proofs.work.gen_counted.Goals as goal

pub returns-in-Some : goal.returns-in-Some
returns-in-Some c = λ told faults last.
    works_as told _ _ faults faults last last c.gen_within.result
    (counted c.args.budget c.args.count.now c.routers_of.result (Some c.in-Some.routers) c.routers_of.ensures c.in-Some.is)
    (c.gen_within.ensures told faults last)

pub returns-in-None : goal.returns-in-None
returns-in-None c = λ told faults last.
    works_none told _ faults last
    (counted c.args.budget c.args.count.now c.routers_of.result None c.routers_of.ensures c.in-None.is)
