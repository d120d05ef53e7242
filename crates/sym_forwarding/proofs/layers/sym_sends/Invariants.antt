use Rattle.std.proofs.Common.{◌≡◌, ◌<◌, ◌||◌, drop}
use Rattle.std.specs.List.{list_any}
use Rattle.term_store.specs.Terms.{Reading, size, at}
use Rattle.term_store.specs.Reading.{Reads, Builds}
use Rattle.term_arith.specs.Bits.{bits}
use Rattle.sym_forwarding.specs.Layers.{leads}
use Rattle.sym_forwarding.specs.Symbolic.{edges_of}
use Rattle.sym_forwarding.proofs.layers.sym_sends.Given as goal

abbrev pub invariant-loop-edge : goal.invariant-loop-edge
invariant-loop-edge l = record {
  builds : Builds l.fn.terms l.terms;
  within : l.any.0 < size l.terms;
  value : (w : Reading) → Reads w l.terms →
      (at w l.any || list_any (leads (bits w l.marks)) (edges_of w (drop l.edge-index l.next)))
      ≡ list_any (leads (bits w l.marks)) (edges_of w l.next);
}
