use Rattle.trimmed_logs.proofs.Within.{Going}
use Rattle.trimmed_logs.proofs.sections.read_entries.Given as goal

-- the lines so far are right
abbrev pub invariant-loop-lines : goal.invariant-loop-lines
invariant-loop-lines l = Going l.checker l.order l.entries.items l.bytes l.rest l.lines
