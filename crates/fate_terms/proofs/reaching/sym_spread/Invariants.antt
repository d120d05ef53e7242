use Rattle.std.proofs.Common.{◌≡◌, ◌≤◌, length}
use Rattle.term_store.specs.Terms.{Reading, size}
use Rattle.term_store.specs.Reading.{Reads, Builds}
use Rattle.term_arith.specs.Bits.{bits, ids_end}
use Rattle.sym_forwarding.specs.Symbolic.{table_of}
use Rattle.fate_terms.specs.Reaching.{AreSpread}
use Rattle.fate_terms.proofs.reaching.sym_spread.Given as goal

-- the marks of the routers so far
abbrev pub invariant-loop-router : goal.invariant-loop-router
invariant-loop-router l = record {
  builds : Builds l.fn.terms l.terms;
  within : ids_end l.later ≤ size l.terms;
  long : length l.later ≡ l.router;
  value : (w : Reading) → Reads w l.terms → AreSpread (bits w l.marks) (table_of w l.table) (bits w l.later);
}
