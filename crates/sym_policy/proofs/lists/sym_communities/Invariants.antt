use Rattle.std.proofs.Common.{◌≡◌, ◌<◌, drop}
use Rattle.term_store.specs.Terms.{Reading, size, at}
use Rattle.term_store.specs.Reading.{Reads, Builds}
use Rattle.term_arith.specs.Bits.{bits}
use Rattle.route_shapes.specs.Shapes.{marks_permitted}
use Rattle.sym_policy.proofs.lists.sym_communities.Given as goal

abbrev pub invariant-loop-i : goal.invariant-loop-i
invariant-loop-i l = record {
  builds : Builds l.fn.terms l.terms;
  within : l.rest.0 < size l.terms;
  value : (w : Reading) → Reads w l.terms
      → at w l.rest ≡ marks_permitted l.tracked (bits w l.marks) (drop l.i l.entries);
}
