use Rattle.std.proofs.Common.{◌≡◌, ◌<◌, ◌||◌, drop}
use Rattle.term_store.specs.Terms.{Reading, size, at}
use Rattle.term_store.specs.Reading.{Reads, Builds}
use Rattle.term_arith.specs.Bits.{bits}
use Rattle.bgp_shapes.specs.Flags.{any_flagged}
use Rattle.sym_bgp.specs.Beside.{is_better}
use Rattle.sym_bgp.specs.Keys.{key_at, keys_at}
use Rattle.sym_bgp.proofs.beside.is_beaten.Given as goal

abbrev pub invariant-loop-i : goal.invariant-loop-i
invariant-loop-i l = record {
  builds : Builds l.fn.terms l.terms;
  within : l.any.0 < size l.terms;
  value : (w : Reading) → Reads w l.terms
      → (at w l.any || any_flagged (is_better l.step (key_at w l.held)) (bits w (drop l.i l.flags))
      (keys_at w (drop l.i l.keys)))
      ≡ any_flagged (is_better l.step (key_at w l.held)) (bits w l.flags) (keys_at w l.keys);
}
