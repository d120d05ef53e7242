use Rattle.std.proofs.Common.{◌≡◌, ◌≤◌, drop}
use Rattle.term_store.specs.Terms.{Reading, size}
use Rattle.term_store.specs.Reading.{Reads, Builds}
use Rattle.sym_policy.specs.Routes.{route_at, route_end, HasRows}
use Rattle.route_shapes.specs.Shapes.{set_shapes}
use Rattle.sym_policy.proofs.entries.set_lines.Given as goal

abbrev pub invariant-loop-line : goal.invariant-loop-line
invariant-loop-line l = record {
  builds : Builds l.fn.terms l.terms;
  within : route_end l.made ≤ size l.terms;
  rows : HasRows l.tracked l.made;
  value : (w : Reading) → Reads w l.terms
      → set_shapes l.tracked l.external (route_at w l.made) (drop l.line-index l.lines)
      ≡ set_shapes l.tracked l.external (route_at w l.route) l.lines;
}
