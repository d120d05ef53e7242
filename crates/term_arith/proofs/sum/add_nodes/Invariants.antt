use Rattle.std.proofs.Common.{◌≡◌, ◌<◌, ◌≤◌, ◌+◌, drop, length}
use Rattle.term_store.specs.Terms.{Reading, at, size}
use Rattle.term_store.specs.Reading.{Reads, Builds}
use Rattle.term_arith.specs.Bits.{bit, bits, number, ids_end}
use Rattle.term_arith.proofs.NumberLemmas.{onto}
use Rattle.term_arith.proofs.sum.add_nodes.Given as goal

abbrev pub invariant-loop-i : goal.invariant-loop-i
invariant-loop-i l = record {
  builds : Builds l.fn.terms l.terms;
  within : ids_end l.out ≤ size l.terms;
  carry_within : l.carry.0 < size l.terms;
  width : length l.out ≡ l.i;
  value : (w : Reading) → Reads w l.terms
      → onto (bits w l.out) (bit (at w l.carry) + number w (drop l.i l.a) + number w (drop l.i l.b)) ≡ number w l.a
      + number w l.b;
}
