use Rattle.packet_fates.specs.Ends.{AreThose}
use Rattle.packet_fates.proofs.Ending.{IsEndBelow}
use Rattle.packet_fates.proofs.ends.ends_of.Given as goal

-- the fates of the ends of the marked routers so far
abbrev pub invariant-loop-at : goal.invariant-loop-at
invariant-loop-at l = AreThose (IsEndBelow l.files l.all l.marks l.at) l.out
