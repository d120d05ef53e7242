use Rattle.std.proofs.Common.{◌≡◌, ◌≤◌, ◌++◌, drop, map}
use Rattle.term_store.specs.Terms.{Reading, size}
use Rattle.term_store.specs.Reading.{Reads, Builds}
use Rattle.term_arith.specs.Bits.{bits, ids_end}
use Rattle.sym_forwarding.specs.Symbolic.{marked_on, table_of}
use Rattle.sym_forwarding.proofs.layers.sym_layer.Given as goal

abbrev pub invariant-loop-forwarding : goal.invariant-loop-forwarding
invariant-loop-forwarding l = record {
  builds : Builds l.fn.terms l.terms;
  within : ids_end l.out ≤ size l.terms;
  value : (w : Reading) → Reads w l.terms →
      bits w l.out ++ map (marked_on l.ends_count (bits w l.marks)) (table_of w (drop l.forwarding-index l.table))
      ≡ map (marked_on l.ends_count (bits w l.marks)) (table_of w l.table);
}
