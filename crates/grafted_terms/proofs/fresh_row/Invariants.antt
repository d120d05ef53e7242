use Rattle.std.proofs.Common.{◌≡◌, ◌≤◌, ◌+◌, length}
use Rattle.term_store.specs.Terms.{Reading, size}
use Rattle.term_store.specs.Reading.{Reads, Grows}
use Rattle.term_arith.specs.Bits.{bits, ids_end, variables}
use Rattle.grafted_terms.proofs.fresh_row.Given as goal

abbrev pub invariant-loop-number : goal.invariant-loop-number
invariant-loop-number l = record {
  grows : Grows l.fn.terms l.terms;
  within : ids_end l.nodes ≤ size l.terms;
  width : length l.nodes ≡ l.number;
  vars : l.terms.vars ≡ l.fn.terms.vars + l.number;
  value : (w : Reading) → Reads w l.terms → bits w l.nodes ≡ variables w l.fn.terms.vars l.number;
}
