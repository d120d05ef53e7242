use Rattle.std.proofs.Common.{◌≡◌, ◌≤◌, ◌+◌, replicate}
use Rattle.term_arith.specs.Bits.{ids_end}
use Rattle.term_arith.proofs.count.copies.Given as goal

abbrev pub invariant-loop-i : goal.invariant-loop-i
invariant-loop-i l = record {
  items : l.row ≡ replicate l.i l.node;
  within : ids_end l.row ≤ l.node.0 + 1;
}
