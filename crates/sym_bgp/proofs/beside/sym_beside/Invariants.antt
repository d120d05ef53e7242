use Rattle.std.proofs.Common.{◌≡◌, ◌≤◌, drop, fold, length}
use Rattle.term_store.specs.Terms.{Reading, size}
use Rattle.term_store.specs.Reading.{Reads, Builds}
use Rattle.sym_bgp.specs.Beside.{beside_at, beside_end, next_beside}
use Rattle.sym_bgp.specs.Keys.{key_at, keys_at}
use Rattle.sym_bgp.proofs.beside.sym_beside.Given as goal

abbrev pub invariant-loop-step : goal.invariant-loop-step
invariant-loop-step l = record {
  builds : Builds l.fn.terms l.terms;
  within : beside_end l.here ≤ size l.terms;
  rows : length l.here.flags.nodes.items ≡ length l.keys;
  value : (w : Reading) → Reads w l.terms
      → fold (next_beside (key_at w l.held) (keys_at w l.keys)) (beside_at w l.here) (drop l.step-index l.steps)
      ≡ fold (next_beside (key_at w l.held) (keys_at w l.keys)) (beside_at w l.fn.before) l.steps;
}
