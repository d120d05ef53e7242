use Rattle.paired_nets.proofs.Pairing.{ArePairsBelow}
use Rattle.paired_nets.proofs.links.common_links.Given as goal

-- the pairs of the links so far
abbrev pub invariant-loop-at : goal.invariant-loop-at
invariant-loop-at l = ArePairsBelow l.left.files l.right.files l.at l.out
