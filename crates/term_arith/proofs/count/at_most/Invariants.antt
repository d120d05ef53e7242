use Rattle.std.proofs.Common.{◌≡◌, ◌<◌, ◌≤◌, ◌+◌, true, count_by, take, length}
use Rattle.term_store.specs.Terms.{Reading, at, size}
use Rattle.term_store.specs.Reading.{Reads, Builds}
use Rattle.term_arith.specs.Bits.{bits, ids_end}
use Rattle.term_arith.proofs.CountLemmas.{tally}
use Rattle.term_arith.proofs.count.at_most.Given as goal

abbrev pub invariant-loop-node : goal.invariant-loop-node
invariant-loop-node l = record {
  builds : Builds l.fn.terms l.terms;
  within : ids_end l.row ≤ size l.terms;
  yes_within : l.yes.0 < size l.terms;
  width : length l.row ≡ l.k + 1;
  yes_value : (w : Reading) → Reads w l.terms → at w l.yes ≡ true;
  value : (w : Reading) → Reads w l.terms
      → bits w l.row ≡ tally 0 (l.k + 1) (count_by (at w) (take l.node-index l.bits));
}
