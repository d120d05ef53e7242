use Rattle.std.proofs.Common.{◌≡◌, ◌≤◌, length}
use Rattle.term_store.specs.Terms.{Reading, size}
use Rattle.term_store.specs.Reading.{Reads, Builds}
use Rattle.term_arith.specs.Bits.{ids_end}
use Rattle.export_terms.specs.Routes.{node_in, routes_read}
use Rattle.export_terms.specs.Shapes.{traced_by}
use Rattle.export_terms.proofs.Layers.{AreTraced}
use Rattle.export_terms.proofs.tracing.sym_layer.Given as goal

-- the nodes so far are those of the first routers
abbrev pub invariant-loop-router : goal.invariant-loop-router
invariant-loop-router l = record {
  builds : Builds l.fn.terms l.terms;
  within : ids_end l.nodes.items ≤ size l.terms;
  count : length l.nodes.items ≡ l.router;
  value : (w : Reading) → Reads w l.terms →
      AreTraced (λ r. traced_by l.net.files l.peer (node_in w l.next) r (routes_read w l.tables l.len r)) w l.nodes.items
      l.router;
}
