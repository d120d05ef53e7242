use Rattle.std.proofs.Common.{◌≡◌, ◌==◌, ◌<◌, ◌&&◌, drop, bit_or}
use Rattle.term_store.specs.Terms.{Reading, at, size}
use Rattle.term_store.specs.Reading.{Reads, Builds}
use Rattle.term_arith.specs.Bits.{number}
use Rattle.term_arith.proofs.masked.equal_masked.Given as goal

abbrev pub invariant-loop-node : goal.invariant-loop-node
invariant-loop-node l = record {
  builds : Builds l.fn.terms l.terms;
  within : l.all.0 < size l.terms;
  value : (w : Reading) → Reads w l.terms
      → (at w l.all && (bit_or (number w (drop l.node-index l.nodes)) l.mask == bit_or l.rest l.mask))
      ≡ (bit_or (number w l.nodes) l.fn.ignored == bit_or l.fn.value l.fn.ignored);
}
