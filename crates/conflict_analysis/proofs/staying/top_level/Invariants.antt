use Rattle.std.proofs.Common.{length}
use Rattle.conflict_analysis.specs.Lessons.{marked}
use Rattle.conflict_analysis.specs.Steps.{NoneMarked}
use Rattle.conflict_analysis.proofs.staying.top_level.Given as goal

abbrev pub invariant-loop-at : goal.invariant-loop-at
invariant-loop-at l =
    NoneMarked l.trail.lits.items l.trail.levels.items (marked l.marks) 0 l.at (length l.trail.lits.items)
