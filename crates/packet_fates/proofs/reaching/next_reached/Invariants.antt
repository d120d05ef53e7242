use Rattle.packet_fates.proofs.Spreading.{ClosedBelow}
use Rattle.packet_fates.proofs.reaching.next_reached.Given as goal

-- no hop of the marked routers so far leads to one that is not
abbrev pub invariant-loop-at : goal.invariant-loop-at
invariant-loop-at l =
    ClosedBelow l.all l.marks l.at
