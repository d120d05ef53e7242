use Rattle.log_checker.proofs.Fronts.{Front}
use Rattle.log_checker.proofs.sections.check_entries.Given as goal

-- the lines so far are right
abbrev pub invariant-loop-lines : goal.invariant-loop-lines
invariant-loop-lines l = Front l.clauses l.checker l.bytes l.rest l.lines
