use Rattle.std.proofs.Common.{◌≡◌, ◌≤◌, length}
use Rattle.term_store.specs.Terms.{Reading, size}
use Rattle.term_store.specs.Reading.{Reads, Builds}
use Rattle.term_arith.specs.Bits.{bits, ids_end, variables}
use Rattle.term_arith.proofs.lists.bits_at.Given as goal

abbrev pub invariant-loop-i : goal.invariant-loop-i
invariant-loop-i l = record {
  builds : Builds l.fn.terms l.terms;
  within : ids_end l.nodes ≤ size l.terms;
  width : length l.nodes ≡ l.i;
  value : (w : Reading) → Reads w l.terms → bits w l.nodes ≡ variables w l.fn.first l.i;
}
