use Rattle.std.proofs.Common.{◌≤◌}
use Rattle.sym_ospf.specs.Routes.{routes_end}
use Rattle.term_store.specs.Terms.{size}
use Rattle.examples_symbols.proofs.rows.fresh_rows.Given as goal

abbrev pub invariant-loop-place : goal.invariant-loop-place
invariant-loop-place l = record {
  larger : size l.fn.terms ≤ size l.terms;
  within : routes_end l.routes ≤ size l.terms;
}
