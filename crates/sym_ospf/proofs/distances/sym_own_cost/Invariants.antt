use Rattle.std.proofs.Common.{◌≡◌, ◌≤◌, take, None}
use Rattle.term_store.specs.Terms.{Reading, size}
use Rattle.term_store.specs.Reading.{Reads, Builds}
use Rattle.net_parts.specs.Ospf.{ospf_interfaces}
use Rattle.sym_policy.specs.Held.{failures_of}
use Rattle.sym_ospf.specs.Rows.{distance_end, distance_of}
use Rattle.sym_ospf.proofs.LeastOffers.{own_after}
use Rattle.sym_ospf.proofs.distances.sym_own_cost.Given as goal

abbrev pub invariant-loop-x : goal.invariant-loop-x
invariant-loop-x l = record {
  builds : Builds l.fn.terms l.terms;
  within : distance_end l.best ≤ size l.terms;
  value : (w : Reading) → Reads w l.terms → distance_of w l.best
      ≡ own_after l.net.files (failures_of w l.sym) l.p l.router None (take l.x-index (ospf_interfaces l.net.files));
}
