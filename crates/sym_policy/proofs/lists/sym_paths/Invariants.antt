use Rattle.std.proofs.Common.{◌≡◌, ◌<◌, drop}
use Rattle.term_store.specs.Terms.{Reading, size, at}
use Rattle.term_store.specs.Reading.{Reads, Builds}
use Rattle.sym_policy.specs.Routes.{path_at}
use Rattle.route_shapes.specs.Shapes.{shape_permitted}
use Rattle.sym_policy.proofs.lists.sym_paths.Given as goal

abbrev pub invariant-loop-i : goal.invariant-loop-i
invariant-loop-i l = record {
  builds : Builds l.fn.terms l.terms;
  within : l.rest.0 < size l.terms;
  value : (w : Reading) → Reads w l.terms
      → at w l.rest ≡ shape_permitted l.tracked (path_at w l.path) (drop l.i l.entries);
}
