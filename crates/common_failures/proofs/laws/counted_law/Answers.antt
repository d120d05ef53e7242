use Rattle.common_failures.proofs.Counted.{few, left_set, right_set, tied}
use Rattle.common_failures.proofs.Joint.{joined}
use Rattle.common_failures.proofs.laws.counted_law.Goals as goal

pub returns-clause-from : goal.returns-clause-from
returns-clause-from c = joined

pub returns-clause-to : goal.returns-clause-to
returns-clause-to c = λ left right pairs k one other are common. (
  tied left right pairs k one other are common,
  few left right pairs k one other are common,
  left_set left right pairs k one other are common,
  right_set left right pairs k one other are common,
)
