use Rattle.std.proofs.Common.{◌++◌}
use Rattle.resolution_check.specs.Clauses.{without, opposite}
use Rattle.resolution_check.proofs.Resolvents.{resolvent-pivot, has-resolvent}
use Rattle.resolution_check.proofs.laws.resolvent_law.Goals as goal

pub returns-clause-there : goal.returns-clause-there
returns-clause-there c = λ a b p h. (without a p ++ without b (opposite p), resolvent-pivot a b p h)

pub returns-clause-only : goal.returns-clause-only
returns-clause-only c = has-resolvent
