use Rattle.std.proofs.Common.{◌≡◌, ◌==◌, ◌<◌, ◌&&◌, drop}
use Rattle.term_store.specs.Terms.{Reading, at, size}
use Rattle.term_store.specs.Reading.{Reads, Builds}
use Rattle.term_arith.specs.Bits.{number}
use Rattle.term_arith.proofs.compare.equal_number.Given as goal

abbrev pub invariant-loop-node : goal.invariant-loop-node
invariant-loop-node l = record {
  builds : Builds l.fn.terms l.terms;
  within : l.all.0 < size l.terms;
  value : (w : Reading) → Reads w l.terms
      → (at w l.all && (number w (drop l.node-index l.nodes) == l.rest)) ≡ (number w l.nodes == l.fn.value);
}
