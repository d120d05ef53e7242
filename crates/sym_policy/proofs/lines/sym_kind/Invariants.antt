use Rattle.std.proofs.Common.{◌≡◌, ◌<◌, ◌||◌, drop}
use Rattle.term_store.specs.Terms.{Reading, size, at}
use Rattle.term_store.specs.Reading.{Reads, Builds}
use Rattle.term_arith.specs.Bits.{bits}
use Rattle.ios_ast.specs.Matching.{kind_holds}
use Rattle.sym_policy.specs.Records.{prefix_of}
use Rattle.sym_policy.specs.Routes.{path_at}
use Rattle.route_shapes.specs.Shapes.{shape_line_holds}
use Rattle.sym_policy.proofs.lines.sym_kind.Given as goal

abbrev pub invariant-loop-line : goal.invariant-loop-line
invariant-loop-line l = record {
  builds : Builds l.fn.terms l.terms;
  within : l.any.0 < size l.terms;
  value : (w : Reading) → Reads w l.terms
      → let holds = shape_line_holds l.grounds.policies.now l.grounds.tracked.now
      (prefix_of w l.grounds.dst.now l.grounds.len) (path_at w l.route.path) (bits w l.route.communities.nodes.items) in
      (at w l.any || kind_holds holds (drop l.line-index l.lines) l.wanted) ≡ kind_holds holds l.lines l.wanted;
}
