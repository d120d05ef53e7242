use Rattle.std.proofs.Common.{◌≡◌, ℕ, ◌<◌, length}
use Rattle.cnf_blaster.specs.Cnf.{members, variable_of}
use Rattle.cnf_blaster.specs.Laws.{marked, number_at}
use Rattle.cnf_blaster.proofs.marks.number_marked.Given as goal

abbrev pub invariant-loop-i : goal.invariant-loop-i
invariant-loop-i l = record {
  nodes : l.node_of ≡ members (marked l.marks) l.i;
  len : length l.numbers ≡ l.i;
  numbers : (k : ℕ) → k < l.i → number_at l.numbers k ≡ variable_of (marked l.marks) k;
}
