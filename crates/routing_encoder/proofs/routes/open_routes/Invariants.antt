use Rattle.std.proofs.Common.{◌≡◌, ◌≤◌, ◌+◌, ◌++◌, All, drop, length, map}
use Rattle.term_store.specs.Terms.{Reading, size}
use Rattle.term_store.specs.Reading.{Reads, Grows}
use Rattle.sym_policy.specs.Held.{bgp_end, bgp_of}
use Rattle.sym_policy.specs.MapRecs.{HasTracked}
use Rattle.sym_rib.specs.Into.{list_end}
use Rattle.bgp_variables.specs.Shapes.{bgps_from, bgps_width}
use Rattle.bgp_variables.specs.Rooms.{bgp_rooms}
use Rattle.routing_encoder.proofs.routes.open_routes.Given as goal

-- the routes so far, with those that are left, are all
abbrev pub invariant-loop-p : goal.invariant-loop-p
invariant-loop-p l = record {
  grows : Grows l.fn.terms l.terms;
  within : list_end bgp_end l.made ≤ size l.terms;
  rows : All (HasTracked l.net.tracked) l.made;
  length_is : length l.made ≡ l.p-index;
  vars : l.terms.vars + bgps_width (bgp_rooms l.net.tracked l.net.files (drop l.p-index l.places))
      ≡ l.fn.terms.vars + bgps_width (bgp_rooms l.net.tracked l.net.files l.places);
  value : (w : Reading) → Reads w l.terms → map (bgp_of w) l.made
      ++ bgps_from (bgp_rooms l.net.tracked l.net.files (drop l.p-index l.places)) w.variable l.terms.vars
      ≡ bgps_from (bgp_rooms l.net.tracked l.net.files l.places) w.variable l.fn.terms.vars;
}
