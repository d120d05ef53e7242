use Rattle.std.proofs.Common.{◌≡◌, ◌≤◌, length}
use Rattle.term_store.specs.Terms.{Reading, size}
use Rattle.term_store.specs.Reading.{Reads, Builds}
use Rattle.term_arith.specs.Bits.{bits, ids_end}
use Rattle.failed_links.specs.Rows.{row}
use Rattle.failed_links.proofs.links.row_of.Given as goal

abbrev pub invariant-loop-i : goal.invariant-loop-i
invariant-loop-i l = record {
  builds : Builds l.fn.terms l.terms;
  within : ids_end l.nodes ≤ size l.terms;
  length_is : length l.nodes ≡ l.i;
  value : (w : Reading) → Reads w l.terms → bits w l.nodes ≡ row w.variable l.fn.first l.i;
}
