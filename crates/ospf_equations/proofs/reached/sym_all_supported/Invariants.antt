use Rattle.std.proofs.Common.{◌≡◌, ◌<◌, ◌||◌, not}
use Rattle.mw_text.specs.Members.{all_below}
use Rattle.route_record.specs.declared.Tables.{Tables}
use Rattle.route_record.specs.declared.tracked.Tracked.{Tracked}
use Rattle.term_store.specs.Terms.{Reading, at, size}
use Rattle.term_store.specs.Reading.{Reads, Builds}
use Rattle.ospf_equations.specs.Equations.{StandFor}
use Rattle.ospf_equations.specs.Levels.{of_length}
use Rattle.ospf_equations.specs.Reached.{holds_internal, told}
use Rattle.ospf_equations.proofs.reached.sym_all_supported.Given as goal

-- whether it is so of the routers so far
abbrev pub invariant-loop-router : goal.invariant-loop-router
invariant-loop-router l = record {
  builds : Builds l.fn.terms l.terms;
  within : l.all.0 < size l.terms;
  value : (w : Reading) → Reads w l.terms → (tracked : Tracked) (real : Tables) → StandFor w tracked l.tables real →
      at w l.all ≡ all_below (λ router. not (holds_internal real (of_length l.len) router) || told w l.reached router)
      l.router;
}
