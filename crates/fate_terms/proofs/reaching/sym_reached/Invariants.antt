use Rattle.std.proofs.Common.{◌≡◌, ◌≤◌, length}
use Rattle.term_store.specs.Terms.{Reading, size}
use Rattle.term_store.specs.Reading.{Reads, Builds}
use Rattle.term_arith.specs.Bits.{bits, ids_end}
use Rattle.sym_forwarding.specs.Symbolic.{table_of}
use Rattle.fate_terms.specs.Reaching.{AreReached}
use Rattle.fate_terms.proofs.reaching.sym_reached.Given as goal

-- the marks so many hops on
abbrev pub invariant-loop-hop : goal.invariant-loop-hop
invariant-loop-hop l = record {
  builds : Builds l.fn.terms l.terms;
  within : ids_end l.marks ≤ size l.terms;
  long : length l.marks ≡ length l.table;
  value : (w : Reading) → Reads w l.terms → AreReached (table_of w l.table) l.start l.hop (bits w l.marks);
}
