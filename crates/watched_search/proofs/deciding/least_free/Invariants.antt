use Rattle.resolution_check.specs.Trails.{IsTotal}
use Rattle.watched_search.proofs.deciding.least_free.Given as goal

abbrev pub invariant-loop-var : goal.invariant-loop-var
invariant-loop-var l = IsTotal l.var l.assigned.lits
