use Rattle.std.proofs.Common.{◌≡◌, ◌≤◌}
use Rattle.term_store.specs.Terms.{Reading, size}
use Rattle.term_store.specs.Reading.{Reads, Builds}
use Rattle.term_arith.specs.Bits.{bits, ids_end}
use Rattle.sym_forwarding.specs.Symbolic.{layered, table_of}
use Rattle.sym_forwarding.proofs.layers.sym_layers.Given as goal

abbrev pub invariant-loop-hop : goal.invariant-loop-hop
invariant-loop-hop l = record {
  builds : Builds l.fn.terms l.terms;
  within : ids_end l.marks ≤ size l.terms;
  value : (w : Reading) → Reads w l.terms → bits w l.marks ≡ layered l.ends_count (table_of w l.table) l.hop;
}
