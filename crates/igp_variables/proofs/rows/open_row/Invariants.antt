use Rattle.std.proofs.Common.{◌≡◌, ◌≤◌, ◌+◌, ◌*◌, ◌++◌, length, map, suc}
use Rattle.term_store.specs.Terms.{Reading, size}
use Rattle.term_store.specs.Reading.{Reads, Grows}
use Rattle.sym_policy.specs.Held.{ospf_of}
use Rattle.sym_ospf.specs.Routes.{routes_end}
use Rattle.igp_variables.specs.Rows.{routes_from}
use Rattle.igp_variables.proofs.rows.open_row.Given as goal

abbrev pub invariant-loop-i : goal.invariant-loop-i
invariant-loop-i l = record {
  grows : Grows l.fn.terms l.terms;
  within : routes_end l.made ≤ size l.terms;
  length_is : length l.made ≡ length l.fn.made + l.i;
  vars : l.terms.vars ≡ l.fn.terms.vars + l.i * suc l.fn.width;
  value : (w : Reading) → Reads w l.terms → map (ospf_of w) l.made
      ≡ map (ospf_of w) l.fn.made ++ routes_from l.fn.width l.i w.variable l.fn.terms.vars;
}
