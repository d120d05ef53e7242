use Rattle.std.proofs.Common.{take}
use Rattle.cdcl_search.specs.Turns.{TellsMore, vars_of}
use Rattle.cdcl_search.proofs.turns.tell.Given as goal

abbrev pub invariant-loop-lit : goal.invariant-loop-lit
invariant-loop-lit g l =
    TellsMore ((goal.Decider-dyn g (l.fn.decider.vtable, l.fn.decider.value)).told l.fn.decider.value)
    ((goal.Decider-dyn g (l.decider.vtable, l.decider.value)).told l.decider.value)
    (vars_of (take l.lit-index l.lits))
