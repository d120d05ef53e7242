use Rattle.std.proofs.Common.{◌≡◌, ◌==◌, ◌<◌, ◌&&◌, not, drop}
use Rattle.term_store.specs.Terms.{Reading, at, size}
use Rattle.term_store.specs.Reading.{Reads, Builds}
use Rattle.term_arith.specs.Bits.{number}
use Rattle.term_arith.proofs.compare.equal_nodes.Given as goal

abbrev pub invariant-loop-i : goal.invariant-loop-i
invariant-loop-i l = record {
  builds : Builds l.fn.terms l.terms;
  within : l.apart.0 < size l.terms;
  value : (w : Reading) → Reads w l.terms
      → (not (at w l.apart) && (number w (drop l.i l.a) == number w (drop l.i l.b))) ≡ (number w l.a == number w l.b);
}
