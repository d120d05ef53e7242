use Rattle.std.proofs.Common.{◌≡◌, ◌<◌, true}
use Rattle.std.specs.Prelude.{◌↔◌}
use Rattle.term_store.specs.Terms.{Reading, size, at}
use Rattle.term_store.specs.Reading.{Reads, Builds}
use Rattle.term_arith.specs.Bits.{bits}
use Rattle.sym_forwarding.specs.Symbolic.{table_of}
use Rattle.fate_terms.specs.Reaching.{EndsAmong}
use Rattle.fate_terms.proofs.reaching.sym_ends.Given as goal

-- whether a walk may end at one of the routers so far
abbrev pub invariant-loop-router : goal.invariant-loop-router
invariant-loop-router l = record {
  builds : Builds l.fn.terms l.terms;
  within : l.any.0 < size l.terms;
  value : (w : Reading) → Reads w l.terms →
      at w l.any ≡ true ↔ EndsAmong (bits w l.marks) (table_of w l.table) l.router;
}
