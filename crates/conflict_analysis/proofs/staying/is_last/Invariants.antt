use Rattle.conflict_analysis.specs.Lessons.{marked}
use Rattle.conflict_analysis.specs.Steps.{NoneMarked}
use Rattle.conflict_analysis.proofs.staying.is_last.Given as goal

abbrev pub invariant-loop-earlier : goal.invariant-loop-earlier
invariant-loop-earlier l =
    NoneMarked l.trail.lits.items l.trail.levels.items (marked l.marks) l.top l.earlier l.at
