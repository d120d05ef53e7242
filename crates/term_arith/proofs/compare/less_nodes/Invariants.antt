use Rattle.std.proofs.Common.{◌≡◌, ◌<◌, ◌+◌, nat_lt, drop}
use Rattle.term_store.specs.Terms.{Reading, at, size}
use Rattle.term_store.specs.Reading.{Reads, Builds}
use Rattle.term_arith.specs.Bits.{bit, number}
use Rattle.term_arith.proofs.compare.less_nodes.Given as goal

abbrev pub invariant-loop-i : goal.invariant-loop-i
invariant-loop-i l = record {
  builds : Builds l.fn.terms l.terms;
  within : l.below.0 < size l.terms;
  value : (w : Reading) → Reads w l.terms
      → nat_lt (number w (drop l.i l.a)) (number w (drop l.i l.b) + bit (at w l.below))
      ≡ nat_lt (number w l.a) (number w l.b);
}
