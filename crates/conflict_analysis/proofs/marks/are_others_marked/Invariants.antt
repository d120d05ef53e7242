use Rattle.std.proofs.Common.{◌≡◌, true, take}
use Rattle.clause_arena.specs.Held.{lits_of}
use Rattle.conflict_analysis.specs.Levels.{others_marked}
use Rattle.conflict_analysis.specs.Lessons.{marked}
use Rattle.conflict_analysis.proofs.marks.are_others_marked.Given as goal

abbrev pub invariant-loop-at : goal.invariant-loop-at
invariant-loop-at l = others_marked (marked l.marks) l.var (take l.at (lits_of l.arena l.clause.0)) ≡ true
