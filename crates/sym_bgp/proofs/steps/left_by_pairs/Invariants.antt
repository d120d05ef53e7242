use Rattle.std.proofs.Common.{◌≡◌, ◌≤◌, ◌++◌, drop, length, false}
use Rattle.term_store.specs.Terms.{Reading, size}
use Rattle.term_store.specs.Reading.{Reads, Builds}
use Rattle.term_arith.specs.Bits.{bits, ids_end}
use Rattle.bgp_shapes.specs.Flags.{left, left_of}
use Rattle.sym_bgp.specs.Keys.{keys_at}
use Rattle.sym_bgp.proofs.steps.left_by_pairs.Given as goal

abbrev pub invariant-loop-i : goal.invariant-loop-i
invariant-loop-i l = record {
  builds : Builds l.fn.terms l.terms;
  within : ids_end l.out ≤ size l.terms;
  rows : length l.out ≡ l.i;
  value : (w : Reading) → Reads w l.terms
      → bits w l.out ++ left_of false l.step (bits w l.flags) (keys_at w l.keys) (bits w (drop l.i l.flags))
      (keys_at w (drop l.i l.keys))
      ≡ left false (keys_at w l.keys) (bits w l.flags) l.step;
}
