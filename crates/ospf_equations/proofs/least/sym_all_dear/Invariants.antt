use Rattle.std.proofs.Common.{◌≡◌, ◌<◌}
use Rattle.route_record.specs.declared.Tables.{Tables}
use Rattle.route_record.specs.declared.tracked.Tracked.{Tracked}
use Rattle.term_store.specs.Terms.{Reading, at, size}
use Rattle.term_store.specs.Reading.{Reads, Builds}
use Rattle.ospf_equations.specs.Equations.{StandFor}
use Rattle.ospf_equations.specs.Least.{none_cheaper}
use Rattle.ospf_equations.specs.Levels.{of_length}
use Rattle.ospf_equations.proofs.least.sym_all_dear.Given as goal

-- whether it is so of the routers so far
abbrev pub invariant-loop-router : goal.invariant-loop-router
invariant-loop-router l = record {
  builds : Builds l.fn.terms l.terms;
  within : l.all.0 < size l.terms;
  value : (w : Reading) → Reads w l.terms → (tracked : Tracked) (real : Tables) → StandFor w tracked l.tables real →
      at w l.all ≡ none_cheaper real (of_length l.len) l.least l.router;
}
