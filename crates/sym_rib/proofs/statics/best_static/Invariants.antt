use Rattle.std.proofs.Common.{◌≡◌, ◌≤◌, drop, fold, map}
use Rattle.net_parts.specs.Routing.{closer, static_routes, up_interfaces}
use Rattle.sym_policy.specs.Held.{failures_of}
use Rattle.sym_policy.specs.Records.{prefix_of}
use Rattle.term_store.specs.Terms.{Reading, size}
use Rattle.term_store.specs.Reading.{Reads, Builds}
use Rattle.sym_rib.specs.Slots.{IsNumbered, rib_of, rib_end}
use Rattle.sym_rib.specs.Sources.{static_candidate}
use Rattle.sym_rib.proofs.statics.best_static.Given as goal

-- the best so far and the routes that are left decide
abbrev pub invariant-loop-route : goal.invariant-loop-route
invariant-loop-route l = record {
  builds : Builds l.fn.terms l.terms;
  within : rib_end l.best ≤ size l.terms;
  numbered : (w : Reading) → Reads w l.terms → IsNumbered w l.fn.first → IsNumbered w l.best;
  value : (w : Reading) → Reads w l.terms
      → fold closer (rib_of w l.best) (map static_candidate
      (static_routes (up_interfaces l.lookup.net.now.files (failures_of w l.sym) l.lookup.router)
      (drop l.route-index l.statics) (prefix_of w l.lookup.dst.now l.lookup.len)))
      ≡ fold closer (rib_of w l.fn.first) (map static_candidate
      (static_routes (up_interfaces l.lookup.net.now.files (failures_of w l.sym) l.lookup.router) l.statics
      (prefix_of w l.lookup.dst.now l.lookup.len)));
}
