use Rattle.std.proofs.Common.{◌≡◌, ◌≤◌, ◌++◌, drop, length}
use Rattle.term_store.specs.Terms.{Reading, size}
use Rattle.term_store.specs.Reading.{Reads, Builds}
use Rattle.term_arith.specs.Bits.{bits, ids_end}
use Rattle.route_shapes.specs.Shapes.{marks_with}
use Rattle.sym_policy.proofs.sets.sym_marks_with.Given as goal

abbrev pub invariant-loop-i : goal.invariant-loop-i
invariant-loop-i l = record {
  builds : Builds l.fn.terms l.terms;
  within : ids_end l.out ≤ size l.terms;
  rows : length l.out ≡ l.i;
  value : (w : Reading) → Reads w l.terms
      → bits w l.out ++ marks_with (drop l.i l.tracked) l.values l.beside (bits w (drop l.i l.marks))
      ≡ marks_with l.tracked l.values l.beside (bits w l.marks);
}
