use Rattle.std.proofs.Common.{◌≡◌, ◌<◌, true}
use Rattle.std.specs.Prelude.{◌↔◌}
use Rattle.term_store.specs.Terms.{Reading, size, at}
use Rattle.term_store.specs.Reading.{Reads, Builds}
use Rattle.term_arith.specs.Bits.{bits}
use Rattle.sym_forwarding.specs.Symbolic.{table_of}
use Rattle.fate_terms.specs.Reaching.{ComesFrom}
use Rattle.fate_terms.proofs.reaching.sym_from.Given as goal

-- whether it comes over one of the routers so far
abbrev pub invariant-loop-via : goal.invariant-loop-via
invariant-loop-via l = record {
  builds : Builds l.fn.terms l.terms;
  within : l.any.0 < size l.terms;
  value : (w : Reading) → Reads w l.terms →
      at w l.any ≡ true ↔ ComesFrom (bits w l.marks) (table_of w l.table) l.router l.via;
}
