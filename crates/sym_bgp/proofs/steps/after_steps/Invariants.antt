use Rattle.std.proofs.Common.{◌≡◌, ◌≤◌, drop, fold, length}
use Rattle.term_store.specs.Terms.{Reading, size}
use Rattle.term_store.specs.Reading.{Reads, Builds}
use Rattle.term_arith.specs.Bits.{bits, ids_end}
use Rattle.bgp_shapes.specs.Flags.{left}
use Rattle.sym_bgp.specs.Keys.{keys_at}
use Rattle.sym_bgp.proofs.steps.after_steps.Given as goal

abbrev pub invariant-loop-step : goal.invariant-loop-step
invariant-loop-step l = record {
  builds : Builds l.fn.terms l.terms;
  within : ids_end l.here.nodes.items ≤ size l.terms;
  rows : length l.here.nodes.items ≡ length l.keys;
  value : (w : Reading) → Reads w l.terms
      → fold (left l.always (keys_at w l.keys)) (bits w l.here.nodes.items) (drop l.step-index l.steps)
      ≡ fold (left l.always (keys_at w l.keys)) (bits w l.fn.flags.nodes.items) l.steps;
}
