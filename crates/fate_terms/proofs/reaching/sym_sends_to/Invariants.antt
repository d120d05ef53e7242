use Rattle.std.proofs.Common.{◌≡◌, ◌<◌, ◌||◌, drop}
use Rattle.std.specs.List.{list_any}
use Rattle.term_store.specs.Terms.{Reading, size, at}
use Rattle.term_store.specs.Reading.{Reads, Builds}
use Rattle.sym_forwarding.specs.Forwardings.{sends_to}
use Rattle.sym_forwarding.specs.Symbolic.{edges_of}
use Rattle.fate_terms.proofs.reaching.sym_sends_to.Given as goal

-- the edges so far, and those that are left
abbrev pub invariant-loop-edge : goal.invariant-loop-edge
invariant-loop-edge l = record {
  builds : Builds l.fn.terms l.terms;
  within : l.any.0 < size l.terms;
  value : (w : Reading) → Reads w l.terms →
      (at w l.any || list_any (sends_to l.router) (edges_of w (drop l.edge-index l.next)))
      ≡ list_any (sends_to l.router) (edges_of w l.next);
}
