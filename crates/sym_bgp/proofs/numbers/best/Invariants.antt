use Rattle.std.proofs.Common.{◌≡◌, ◌≤◌, drop, length, map}
use Rattle.term_store.specs.Terms.{Reading, size}
use Rattle.term_store.specs.Reading.{Reads, Builds}
use Rattle.term_arith.specs.Bits.{bits}
use Rattle.bgp_shapes.specs.Numbers.{best_of, compared_number, is_greater_better}
use Rattle.sym_bgp.specs.Best.{best_at, best_end}
use Rattle.sym_bgp.specs.Keys.{compared_width, keys_at}
use Rattle.sym_bgp.proofs.numbers.best.Given as goal

abbrev pub invariant-loop-i : goal.invariant-loop-i
invariant-loop-i l = record {
  builds : Builds l.fn.terms l.terms;
  within : best_end l.rest ≤ size l.terms;
  width : length l.rest.number.nodes.items ≡ compared_width l.step;
  value : (w : Reading) → Reads w l.terms
      → best_at w l.rest ≡ best_of (is_greater_better l.step) (bits w (drop l.i l.flags))
      (map (compared_number l.step) (keys_at w (drop l.i l.keys)));
}
