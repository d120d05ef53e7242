use Rattle.std.proofs.Common.{◌≡◌, ℕ, drop}
use Rattle.cnf_blaster.specs.Cnf.{reached_from}
use Rattle.cnf_blaster.specs.Laws.{marked}
use Rattle.cnf_blaster.proofs.marks.mark_reached.Given as goal

abbrev pub invariant-loop-number : goal.invariant-loop-number
invariant-loop-number l =
    (i : ℕ) → marked l.marks i ≡ reached_from (marked l.fn.marks) l.number (drop l.number l.terms.nodes) i
