use Rattle.std.proofs.Common.{◌≡◌, ◌≤◌, ◌++◌, drop}
use Rattle.std.specs.List.{filter_map}
use Rattle.sym_policy.specs.Held.{failures_of, ospf_of, ospf_end}
use Rattle.sym_policy.specs.Records.{prefix_of}
use Rattle.sym_rib.specs.Into.{list_end}
use Rattle.term_store.specs.Terms.{Reading, size}
use Rattle.term_store.specs.Reading.{Reads, Builds}
use Rattle.ospf_equations.specs.Equations.{origins_by}
use Rattle.ospf_equations.proofs.origins.by_interfaces.Given as goal

-- the routes so far, with those of the interfaces that are left, are all
abbrev pub invariant-loop-x : goal.invariant-loop-x
invariant-loop-x l = record {
  builds : Builds l.fn.terms l.terms;
  within : list_end ospf_end l.made ≤ size l.terms;
  value : (w : Reading) → Reads w l.terms → filter_map (ospf_of w) l.made
      ++ origins_by l.place.net.now.files (failures_of w l.place.sym.now) l.place.router
      (prefix_of w l.place.dst.now l.place.len) (drop l.x-index l.interfaces)
      ≡ origins_by l.place.net.now.files (failures_of w l.place.sym.now) l.place.router
      (prefix_of w l.place.dst.now l.place.len) l.interfaces;
}
