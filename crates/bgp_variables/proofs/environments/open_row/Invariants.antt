use Rattle.std.proofs.Common.{◌≡◌, ◌≤◌, ◌+◌, ◌-◌, ◌++◌, All, length, map, replicate}
use Rattle.std.specs.Option.{option_copied}
use Rattle.term_store.specs.Terms.{Reading, size}
use Rattle.term_store.specs.Reading.{Reads, Grows}
use Rattle.sym_policy.specs.Held.{bgp_end, bgp_of}
use Rattle.sym_policy.specs.MapRecs.{HasTracked}
use Rattle.sym_rib.specs.Into.{list_end}
use Rattle.bgp_variables.specs.Shapes.{bgps_from, bgps_width}
use Rattle.bgp_variables.proofs.environments.open_row.Given as goal

abbrev pub invariant-loop-i : goal.invariant-loop-i
invariant-loop-i l = record {
  grows : Grows l.fn.terms l.terms;
  within : list_end bgp_end l.made ≤ size l.terms;
  length_is : length l.made ≡ length l.fn.made + l.i;
  rows : All (HasTracked l.tracked) l.made;
  vars : l.terms.vars + bgps_width (replicate (l.count - l.i) (option_copied l.room))
      ≡ l.fn.terms.vars + bgps_width (replicate l.count (option_copied l.room));
  value : (w : Reading) → Reads w l.terms → map (bgp_of w) l.made
      ++ bgps_from (replicate (l.count - l.i) (option_copied l.room)) w.variable l.terms.vars
      ≡ map (bgp_of w) l.fn.made ++ bgps_from (replicate l.count (option_copied l.room)) w.variable l.fn.terms.vars;
}
