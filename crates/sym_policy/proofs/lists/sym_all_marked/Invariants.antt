use Rattle.std.proofs.Common.{◌≡◌, ◌<◌, ◌&&◌, drop}
use Rattle.std.specs.List.{list_all}
use Rattle.term_store.specs.Terms.{Reading, size, at}
use Rattle.term_store.specs.Reading.{Reads, Builds}
use Rattle.term_arith.specs.Bits.{bits}
use Rattle.route_shapes.specs.Shapes.{marked}
use Rattle.sym_policy.proofs.lists.sym_all_marked.Given as goal

abbrev pub invariant-loop-value : goal.invariant-loop-value
invariant-loop-value l = record {
  builds : Builds l.fn.terms l.terms;
  within : l.all.0 < size l.terms;
  value : (w : Reading) → Reads w l.terms
      → (at w l.all && list_all (marked l.tracked (bits w l.marks)) (drop l.value-index l.values))
      ≡ list_all (marked l.tracked (bits w l.marks)) l.values;
}
