use Rattle.std.proofs.Common.{◌≡◌, ◌≤◌, length}
use Rattle.term_arith.specs.Bits.{ids_end}
use Rattle.term_store.specs.Terms.{Reading, size}
use Rattle.term_store.specs.Reading.{Reads, Builds}
use Rattle.fate_terms.specs.Named.{AreFateNodes, KnowsWalks, world_of_walks}
use Rattle.fate_terms.proofs.named.sym_each.Given as goal

-- a node for each of the fates so far
abbrev pub invariant-loop-fate : goal.invariant-loop-fate
invariant-loop-fate l = record {
  builds : Builds l.fn.terms l.terms;
  within : ids_end l.ids ≤ size l.terms;
  long : length l.ids ≡ l.fate-index;
  value : (w : Reading) → Reads w l.terms → KnowsWalks w l.walked →
      AreFateNodes w l.walked.net.now.files (world_of_walks w l.walked) l.walked.start l.fates l.ids;
}
