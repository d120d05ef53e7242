use Rattle.packet_fates.proofs.Rounding.{NoRoundBelow}
use Rattle.packet_fates.proofs.rounds.some_round.Given as goal

-- no marked router so far is one from which hops lead back to it
abbrev pub invariant-loop-at : goal.invariant-loop-at
invariant-loop-at l = NoRoundBelow l.all l.marks l.at
