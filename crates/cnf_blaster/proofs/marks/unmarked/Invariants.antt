use Rattle.std.proofs.Common.{◌≡◌, false, replicate}
use Rattle.cnf_blaster.proofs.marks.unmarked.Given as goal

abbrev pub invariant-loop-i : goal.invariant-loop-i
invariant-loop-i l = l.marks ≡ replicate l.i false
