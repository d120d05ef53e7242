use Rattle.std.proofs.Common.{◌≡◌, ◌≤◌, ◌++◌, drop, length, map}
use Rattle.term_store.specs.Terms.{Reading, size}
use Rattle.term_store.specs.Reading.{Reads, Builds}
use Rattle.term_arith.specs.Bits.{bits, ids_end}
use Rattle.bgp_shapes.specs.Numbers.{compared_number, is_greater_better, kept_by}
use Rattle.sym_bgp.specs.Best.{best_at}
use Rattle.sym_bgp.specs.Keys.{keys_at}
use Rattle.sym_bgp.proofs.numbers.kept.Given as goal

abbrev pub invariant-loop-i : goal.invariant-loop-i
invariant-loop-i l = record {
  builds : Builds l.fn.terms l.terms;
  within : ids_end l.out ≤ size l.terms;
  rows : length l.out ≡ l.i;
  value : (w : Reading) → Reads w l.terms
      → bits w l.out ++ kept_by (is_greater_better l.step) (best_at w l.best) (bits w (drop l.i l.flags))
      (map (compared_number l.step) (keys_at w (drop l.i l.keys)))
      ≡ kept_by (is_greater_better l.step) (best_at w l.best) (bits w l.flags)
      (map (compared_number l.step) (keys_at w l.keys));
}
