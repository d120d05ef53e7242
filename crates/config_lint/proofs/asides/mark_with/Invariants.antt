use Rattle.config_lint.proofs.Marks.{MarkedTo}
use Rattle.config_lint.proofs.asides.mark_with.Given as goal

-- the signs so far
abbrev pub invariant-loop-k : goal.invariant-loop-k
invariant-loop-k l = MarkedTo l.lines l.line l.n l.end l.initial.flags l.flags l.k
