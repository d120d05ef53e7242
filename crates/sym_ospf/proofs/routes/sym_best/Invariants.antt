use Rattle.std.proofs.Common.{◌≡◌, ◌≤◌, drop}
use Rattle.std.specs.List.{filter_map}
use Rattle.term_store.specs.Terms.{Reading, size}
use Rattle.term_store.specs.Reading.{Reads, Builds}
use Rattle.net_parts.specs.OspfRoutes.{first_best}
use Rattle.sym_policy.specs.Held.{ospf_of, ospf_end}
use Rattle.sym_ospf.proofs.RouteKinds.{best_after}
use Rattle.sym_ospf.proofs.routes.sym_best.Given as goal

abbrev pub invariant-loop-rec : goal.invariant-loop-rec
invariant-loop-rec l = record {
  builds : Builds l.fn.terms l.terms;
  within : ospf_end l.best ≤ size l.terms;
  value : (w : Reading) → Reads w l.terms
      → best_after (ospf_of w l.best) (filter_map (ospf_of w) (drop l.rec-index l.recs))
      ≡ first_best (filter_map (ospf_of w) l.recs);
}
