use Rattle.std.proofs.Common.{option_map}
use Rattle.run_inputs.proofs.Commands.{gen_command, gen_none, works_as, works_none}
use Rattle.run_inputs.proofs.work.gen_work.Goals as goal

pub returns-in-Some : goal.returns-in-Some
returns-in-Some c = λ told faults last.
    works_as told _ _ faults faults last last c.gen_counted.result
    (gen_command (option_map (λ s. s.now) c.args.conflicts) c.args.count.now c.budget_of.result c.in-Some.budget
    c.budget_of.ensures.value c.in-Some.is)
    (c.gen_counted.ensures told faults last)

pub returns-in-None : goal.returns-in-None
returns-in-None c = λ told faults last.
    works_none told _ faults last
    (gen_none (option_map (λ s. s.now) c.args.conflicts) c.args.count.now c.budget_of.result c.budget_of.ensures.value
    c.in-None.is)
