use Rattle.std.proofs.Common.{◌≡◌, ◌<◌, drop, false}
use Rattle.std.specs.List.{find, list_any}
use Rattle.std.specs.Option.{option_map_or}
use Rattle.term_store.specs.Terms.{Reading, at, size}
use Rattle.term_store.specs.Reading.{Reads, Builds}
use Rattle.net_parts.specs.Exports.{is_metric}
use Rattle.route_shapes.specs.Shapes.{shape_route_taken}
use Rattle.sym_policy.specs.Order.{entries_of}
use Rattle.sym_policy.specs.Records.{prefix_of}
use Rattle.sym_policy.specs.Routes.{route_at}
use Rattle.sym_bgp.proofs.metrics.sym_entries_set.Given as goal

abbrev pub invariant-loop-i : goal.invariant-loop-i
invariant-loop-i l = record {
  builds : Builds l.fn.terms l.terms;
  within : l.rest.0 < size l.terms;
  value : (w : Reading) → Reads w l.terms → at w l.rest ≡ option_map_or (λ e. list_any is_metric e.sets)
      (find (shape_route_taken l.by.policies.now l.by.tracked.now (prefix_of w l.by.dst.now l.by.len)
      (route_at w l.route)) (entries_of (drop l.i l.entries))) false;
}
