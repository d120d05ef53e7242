use Rattle.std.proofs.Common.{◌≤◌, take}
use Rattle.term_store.specs.Terms.{Reading, size, at}
use Rattle.term_store.specs.Reading.{Reads, Builds}
use Rattle.sym_forwarding.specs.Choices.{AreJoined}
use Rattle.sym_forwarding.specs.Symbolic.{edges_end, edges_of}
use Rattle.sym_forwarding.proofs.choices.put_guarded.Given as goal

abbrev pub invariant-loop-edge : goal.invariant-loop-edge
invariant-loop-edge l = record {
  builds : Builds l.fn.terms l.terms;
  within : edges_end l.out ≤ size l.terms;
  value : (w : Reading) → Reads w l.terms →
      AreJoined (edges_of w l.fn.out) (at w l.c) (edges_of w (take l.edge-index l.next)) (edges_of w l.out);
}
