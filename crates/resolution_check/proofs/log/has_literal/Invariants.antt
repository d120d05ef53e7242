use Rattle.std.proofs.Common.{◌≡◌, false, take}
use Rattle.resolution_check.specs.Clauses.{has}
use Rattle.resolution_check.proofs.log.has_literal.Given as goal

abbrev pub invariant-loop-other : goal.invariant-loop-other
invariant-loop-other l = has (take l.other-index l.lits) l.lit ≡ false
