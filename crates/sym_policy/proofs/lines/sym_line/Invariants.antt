use Rattle.std.proofs.Common.{◌≡◌, ◌<◌, ◌||◌, drop}
use Rattle.std.specs.List.{list_any}
use Rattle.term_store.specs.Terms.{Reading, size, at}
use Rattle.term_store.specs.Reading.{Reads, Builds}
use Rattle.term_arith.specs.Bits.{bits}
use Rattle.sym_policy.specs.Records.{prefix_of}
use Rattle.sym_policy.specs.Routes.{path_at}
use Rattle.route_shapes.specs.Shapes.{shape_list_permits, shape_line_holds}
use Rattle.sym_policy.proofs.lines.sym_line.Given as goal

abbrev pub invariant-loop-named : goal.invariant-loop-named
invariant-loop-named l = record {
  builds : Builds l.fn.terms l.terms;
  within : l.any.0 < size l.terms;
  value : (w : Reading) → Reads w l.terms
      → let test = shape_list_permits l.grounds.policies.now l.grounds.tracked.now
      (prefix_of w l.grounds.dst.now l.grounds.len) (path_at w l.route.path)
      (bits w l.route.communities.nodes.items) l.line in
      (at w l.any || list_any test (drop l.named-index l.named-items))
      ≡ shape_line_holds l.grounds.policies.now l.grounds.tracked.now
      (prefix_of w l.grounds.dst.now l.grounds.len) (path_at w l.route.path)
      (bits w l.route.communities.nodes.items) l.line;
}
