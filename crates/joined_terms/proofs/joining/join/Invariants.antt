use Rattle.std.proofs.Common.{◌≡◌, ◌≤◌, length}
use Rattle.term_arith.specs.Bits.{ids_end}
use Rattle.term_store.specs.Reading.{Builds, Reads}
use Rattle.term_store.specs.Terms.{Reading, size}
use Rattle.joined_terms.proofs.Moving.{AreRead}
use Rattle.joined_terms.proofs.joining.join.Given as goal

-- the nodes so far stand at their places
abbrev pub invariant-loop-i : goal.invariant-loop-i
invariant-loop-i l = record {
  builds : Builds l.fn.into l.into;
  within : ids_end l.places.items ≤ size l.into;
  count : length l.places.items ≡ l.i;
  value : (w : Reading) → Reads w l.into → AreRead l.from l.places.items l.i w;
}
