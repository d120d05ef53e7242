use Rattle.std.proofs.Common.{◌≡◌, ◌≤◌, ◌+◌, ◌++◌, All, drop, length, map}
use Rattle.term_store.specs.Terms.{Reading, size}
use Rattle.term_store.specs.Reading.{Reads, Grows}
use Rattle.net_parts.specs.Sessions.{ends_of}
use Rattle.sym_policy.specs.Held.{bgp_end, bgp_of}
use Rattle.sym_policy.specs.MapRecs.{HasTracked}
use Rattle.sym_rib.specs.Into.{list_end}
use Rattle.bgp_variables.specs.Environments.{rooms_over}
use Rattle.bgp_variables.specs.Shapes.{bgps_from, bgps_width}
use Rattle.bgp_variables.proofs.environments.open_announced.Given as goal

abbrev pub invariant-loop-end : goal.invariant-loop-end
invariant-loop-end l = record {
  grows : Grows l.fn.terms l.terms;
  within : list_end bgp_end l.made ≤ size l.terms;
  rows : All (HasTracked l.net.tracked) l.made;
  length_is : length l.made
      + length (rooms_over l.net.tracked l.net.files (length l.lens) (drop l.end-index (ends_of l.net.files)))
      ≡ length (rooms_over l.net.tracked l.net.files (length l.lens) (ends_of l.net.files));
  vars : l.terms.vars
      + bgps_width (rooms_over l.net.tracked l.net.files (length l.lens) (drop l.end-index (ends_of l.net.files)))
      ≡ l.fn.terms.vars + bgps_width (rooms_over l.net.tracked l.net.files (length l.lens) (ends_of l.net.files));
  value : (w : Reading) → Reads w l.terms → map (bgp_of w) l.made
      ++ bgps_from (rooms_over l.net.tracked l.net.files (length l.lens) (drop l.end-index (ends_of l.net.files)))
      w.variable l.terms.vars
      ≡ bgps_from (rooms_over l.net.tracked l.net.files (length l.lens) (ends_of l.net.files)) w.variable
      l.fn.terms.vars;
}
