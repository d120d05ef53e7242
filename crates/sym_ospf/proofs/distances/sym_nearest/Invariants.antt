use Rattle.std.proofs.Common.{◌≡◌, ◌≤◌, take}
use Rattle.term_store.specs.Terms.{Reading, size}
use Rattle.term_store.specs.Reading.{Reads, Builds}
use Rattle.net_parts.specs.Distances.{own_cost}
use Rattle.net_parts.specs.Ospf.{adjacencies}
use Rattle.sym_policy.specs.Held.{failures_of}
use Rattle.sym_ospf.specs.Rows.{costs_at, distance_end, distance_of}
use Rattle.sym_ospf.proofs.LeastOffers.{far_after}
use Rattle.sym_ospf.proofs.distances.sym_nearest.Given as goal

abbrev pub invariant-loop-a : goal.invariant-loop-a
invariant-loop-a l = record {
  builds : Builds l.fn.terms l.terms;
  within : distance_end l.best ≤ size l.terms;
  value : (w : Reading) → Reads w l.terms → distance_of w l.best
      ≡ far_after l.net.files (failures_of w l.sym) (costs_at w l.net.files l.sym l.k) l.router
      (own_cost l.net.files (failures_of w l.sym) l.p l.router) (take l.a-index (adjacencies l.net.files));
}
