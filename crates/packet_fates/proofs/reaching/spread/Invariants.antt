use Rattle.walk_def.proofs.Known.{unknown_count}
use Rattle.packet_fates.proofs.Spreading.{IsSpread}
use Rattle.packet_fates.proofs.reaching.spread.Given as goal

abbrev pub invariant-rounds : goal.invariant-rounds
invariant-rounds l = IsSpread l.all l.start l.marks.items

-- fewer routers are not marked
abbrev pub decreases-rounds : goal.decreases-rounds
decreases-rounds l = unknown_count l.marks.items
