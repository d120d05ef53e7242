use Rattle.std.proofs.Common.{◌≡◌, ℕ, ◌||◌, take}
use Rattle.cnf_blaster.specs.Cnf.{names}
use Rattle.cnf_blaster.specs.Laws.{marked}
use Rattle.cnf_blaster.proofs.marks.mark_all.Given as goal

abbrev pub invariant-loop-id : goal.invariant-loop-id
invariant-loop-id l = (i : ℕ) → marked l.marks i ≡ (marked l.fn.marks i || names (take l.id-index l.ids) i)
