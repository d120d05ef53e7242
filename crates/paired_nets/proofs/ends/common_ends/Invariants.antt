use Rattle.paired_nets.proofs.EndPairs.{AreEndPairsBelow}
use Rattle.paired_nets.proofs.ends.common_ends.Given as goal

-- the pairs of the ends so far
abbrev pub invariant-loop-at : goal.invariant-loop-at
invariant-loop-at l = AreEndPairsBelow l.left.files l.right.files l.at l.out
