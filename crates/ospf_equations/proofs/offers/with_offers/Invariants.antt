use Rattle.std.proofs.Common.{◌≡◌, ◌≤◌, ◌++◌, drop}
use Rattle.std.specs.List.{filter_map}
use Rattle.route_record.specs.declared.Tables.{Tables}
use Rattle.route_record.specs.declared.tracked.Tracked.{Tracked}
use Rattle.sym_policy.specs.Held.{ospf_of, ospf_end}
use Rattle.sym_policy.specs.Records.{prefix_of}
use Rattle.sym_rib.specs.Into.{list_end}
use Rattle.term_store.specs.Terms.{Reading, size}
use Rattle.term_store.specs.Reading.{Reads, Builds}
use Rattle.ospf_equations.specs.Adjacent.{offers_read}
use Rattle.ospf_equations.specs.Equations.{StandFor}
use Rattle.ospf_equations.proofs.offers.with_offers.Given as goal

-- the routes so far, with what is offered over the adjacencies that are left, are all
abbrev pub invariant-loop-s : goal.invariant-loop-s
invariant-loop-s l = record {
  builds : Builds l.fn.terms l.terms;
  within : list_end ospf_end l.made ≤ size l.terms;
  value : (w : Reading) → Reads w l.terms → (tracked : Tracked) (real : Tables) → StandFor w tracked l.tables real →
      filter_map (ospf_of w) l.made ++ offers_read w real (prefix_of w l.dst l.len) (drop l.s-index l.over)
      ≡ filter_map (ospf_of w) l.fn.own ++ offers_read w real (prefix_of w l.dst l.len) l.over;
}
