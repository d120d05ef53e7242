use Rattle.std.proofs.Common.{◌≡◌, ◌≤◌, ◌++◌, drop, length}
use Rattle.term_store.specs.Terms.{Reading, size}
use Rattle.term_store.specs.Reading.{Reads, Builds}
use Rattle.term_arith.specs.Bits.{bits, ids_end}
use Rattle.sym_bgp.specs.Beside.{level_of}
use Rattle.sym_bgp.specs.Keys.{key_at, keys_at}
use Rattle.sym_bgp.proofs.beside.level.Given as goal

abbrev pub invariant-loop-i : goal.invariant-loop-i
invariant-loop-i l = record {
  builds : Builds l.fn.terms l.terms;
  within : ids_end l.out ≤ size l.terms;
  rows : length l.out ≡ l.i;
  value : (w : Reading) → Reads w l.terms
      → bits w l.out ++ level_of l.step (key_at w l.held) (bits w (drop l.i l.flags)) (keys_at w (drop l.i l.keys))
      ≡ level_of l.step (key_at w l.held) (bits w l.flags) (keys_at w l.keys);
}
