use Rattle.std.proofs.Common.{◌≡◌, ◌≤◌, ◌+◌, ◌*◌, length, map, suc}
use Rattle.term_store.specs.Terms.{Reading, size}
use Rattle.term_store.specs.Reading.{Reads, Grows}
use Rattle.sym_policy.specs.Held.{ospf_of}
use Rattle.sym_ospf.specs.Routes.{routes_end}
use Rattle.igp_variables.specs.Rows.{routes_from}
use Rattle.igp_variables.proofs.rows.all_rows.Given as goal

abbrev pub invariant-loop-router : goal.invariant-loop-router
invariant-loop-router l = record {
  grows : Grows l.fn.terms l.terms;
  within : routes_end l.made ≤ size l.terms;
  length_is : length l.made ≡ l.router * l.row;
  vars : l.terms.vars ≡ l.fn.terms.vars + l.router * l.row * suc l.width;
  value : (w : Reading) → Reads w l.terms → map (ospf_of w) l.made
      ≡ routes_from l.width (l.router * l.row) w.variable l.fn.terms.vars;
}
