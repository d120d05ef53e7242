use Rattle.ospf_equations.proofs.limits.close.Given as goal

abbrev pub invariant-loop-limit : goal.invariant-loop-limit
invariant-loop-limit l = Unit {0}

-- the limits descend
abbrev pub decreases-loop-limit : goal.decreases-loop-limit
decreases-loop-limit l = l.limit
