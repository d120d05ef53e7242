use Rattle.std.proofs.Common.{◌≡◌, ◌<◌, ◌≤◌, ◌++◌, drop, length}
use Rattle.term_store.specs.Terms.{Reading, at, size}
use Rattle.term_store.specs.Reading.{Reads, Builds}
use Rattle.term_arith.specs.Bits.{bits, ids_end, raised}
use Rattle.term_arith.proofs.count.raise.Given as goal

abbrev pub invariant-loop-i : goal.invariant-loop-i
invariant-loop-i l = record {
  builds : Builds l.fn.terms l.terms;
  within : ids_end l.out ≤ size l.terms;
  last_within : l.last.0 < size l.terms;
  width : length l.out ≡ l.i;
  value : (w : Reading) → Reads w l.terms
      → bits w l.out ++ raised (at w l.last) (at w l.node) (bits w (drop l.i l.row))
      ≡ raised (at w l.fn.before) (at w l.node) (bits w l.row);
}
