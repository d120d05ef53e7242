use Rattle.std.proofs.Common.{◌≡◌, ◌≤◌, length}
use Rattle.term_store.specs.Terms.{Reading, size}
use Rattle.term_store.specs.Reading.{Reads, Builds}
use Rattle.term_arith.specs.Bits.{bits, ids_end}
use Rattle.fate_terms.specs.Reaching.{IsStart}
use Rattle.fate_terms.proofs.reaching.start_marks.Given as goal

-- the marks of the routers so far
abbrev pub invariant-loop-router : goal.invariant-loop-router
invariant-loop-router l = record {
  builds : Builds l.fn.terms l.terms;
  within : ids_end l.marks ≤ size l.terms;
  long : length l.marks ≡ l.router;
  value : (w : Reading) → Reads w l.terms → IsStart l.start (bits w l.marks);
}
