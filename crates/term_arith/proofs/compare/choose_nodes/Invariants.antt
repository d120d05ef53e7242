use Rattle.std.proofs.Common.{◌≡◌, ◌≤◌, if◌then◌else◌, take, length}
use Rattle.term_store.specs.Terms.{Reading, at, size}
use Rattle.term_store.specs.Reading.{Reads, Builds}
use Rattle.term_arith.specs.Bits.{bits, ids_end}
use Rattle.term_arith.proofs.compare.choose_nodes.Given as goal

abbrev pub invariant-loop-i : goal.invariant-loop-i
invariant-loop-i l = record {
  builds : Builds l.fn.terms l.terms;
  within : ids_end l.out ≤ size l.terms;
  width : length l.out ≡ l.i;
  value : (w : Reading) → Reads w l.terms
      → bits w l.out ≡ (if at w l.c then bits w (take l.i l.a) else bits w (take l.i l.b));
}
