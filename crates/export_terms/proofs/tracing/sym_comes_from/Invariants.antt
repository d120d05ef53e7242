use Rattle.std.proofs.Common.{◌≡◌, ℕ, ◌≤◌}
use Rattle.term_store.specs.Terms.{Reading, size}
use Rattle.term_store.specs.Reading.{Reads, Builds}
use Rattle.term_arith.specs.Bits.{ids_end}
use Rattle.export_terms.specs.Routes.{node_in, routes_read}
use Rattle.export_terms.specs.Shapes.{comes_from}
use Rattle.export_terms.proofs.tracing.sym_comes_from.Given as goal

-- the nodes say whether traces end at the peer within so many routers
abbrev pub invariant-loop-step : goal.invariant-loop-step
invariant-loop-step l = record {
  builds : Builds l.fn.terms l.terms;
  within : ids_end l.nodes.items ≤ size l.terms;
  value : (w : Reading) → Reads w l.terms → (r : ℕ) →
      node_in w l.nodes.items r ≡ comes_from l.net.files (routes_read w l.tables l.len) l.peer l._step r;
}
