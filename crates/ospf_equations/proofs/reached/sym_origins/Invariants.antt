use Rattle.std.proofs.Common.{◌≡◌, ℕ, ◌<◌, ◌≤◌, length}
use Rattle.route_record.specs.declared.Tables.{Tables}
use Rattle.sym_policy.specs.Held.{failures_of}
use Rattle.sym_policy.specs.Records.{prefix_of}
use Rattle.term_arith.specs.Bits.{ids_end}
use Rattle.term_store.specs.Terms.{Reading, size}
use Rattle.term_store.specs.Reading.{Reads, Builds}
use Rattle.ospf_equations.specs.Equations.{StandFor}
use Rattle.ospf_equations.specs.Reached.{is_origin, told}
use Rattle.ospf_equations.proofs.reached.sym_origins.Given as goal

-- the nodes of the routers so far
abbrev pub invariant-loop-router : goal.invariant-loop-router
invariant-loop-router l = record {
  builds : Builds l.fn.terms l.terms;
  within : ids_end l.made ≤ size l.terms;
  long : length l.made ≡ l.router;
  value : (w : Reading) → Reads w l.terms → (real : Tables) → StandFor w l.first.net.now.tracked l.tables real →
      (router : ℕ) → router < l.router → told w l.made router ≡ is_origin l.first.net.now.files
      (failures_of w l.first.sym.now) real (prefix_of w l.first.dst.now l.first.len) router;
}
