use Rattle.std.proofs.Common.{◌≡◌, ℕ, ◌||◌, take}
use Rattle.resolution_check.specs.Earned.{has_var}
use Rattle.clause_arena.specs.Held.{lits_of}
use Rattle.conflict_analysis.specs.Lessons.{marked}
use Rattle.conflict_analysis.proofs.marks.mark_clause.Given as goal

abbrev pub invariant-loop-at : goal.invariant-loop-at
invariant-loop-at l =
    (v : ℕ) → marked l.marks v ≡ (has_var (take l.at (lits_of l.arena l.clause.0)) v || marked l.fn.marks v)
