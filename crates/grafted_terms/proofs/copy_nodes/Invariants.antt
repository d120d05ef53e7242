use Rattle.std.proofs.Common.{◌≡◌, ◌≤◌, length, take}
use Rattle.term_store.specs.Terms.{Reading, size, values_of}
use Rattle.term_store.specs.Reading.{Reads, Grows}
use Rattle.term_arith.specs.Bits.{bits, ids_end}
use Rattle.grafted_terms.proofs.copy_nodes.Given as goal

abbrev pub invariant-loop-number : goal.invariant-loop-number
invariant-loop-number l = record {
  grows : Grows l.fn.into l.into;
  vars : l.into.vars ≡ l.fn.into.vars;
  within : ids_end l.copies ≤ size l.into;
  length : length l.copies ≡ l.number;
  value : (w : Reading) → Reads w l.into → bits w l.copies ≡ values_of (take l.number l.from.nodes) (bits w l.variables);
}
