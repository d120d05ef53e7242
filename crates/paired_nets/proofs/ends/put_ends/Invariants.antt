use Rattle.paired_nets.proofs.EndPairs.{PutBelow}
use Rattle.paired_nets.proofs.ends.put_ends.Given as goal

-- the pairs with the ends so far are put
abbrev pub invariant-loop-at : goal.invariant-loop-at
invariant-loop-at l = PutBelow l.left l.right l.a l.one l.others l.at l.initial.out l.out
