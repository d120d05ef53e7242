use Rattle.std.proofs.Common.{◌≡◌, ◌<◌, ◌+◌, nat_lt, drop}
use Rattle.term_store.specs.Terms.{Reading, at, size}
use Rattle.term_store.specs.Reading.{Reads, Builds}
use Rattle.term_arith.specs.Bits.{bit, number}
use Rattle.term_arith.proofs.compare.above_number.Given as goal

abbrev pub invariant-loop-node : goal.invariant-loop-node
invariant-loop-node l = record {
  builds : Builds l.fn.terms l.terms;
  within : l.above.0 < size l.terms;
  value : (w : Reading) → Reads w l.terms
      → nat_lt l.rest (number w (drop l.node-index l.nodes) + bit (at w l.above)) ≡ nat_lt l.fn.value (number w l.nodes);
}
