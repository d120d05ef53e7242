use Rattle.tracked_alike.proofs.Unions.{united_again, united_turned, united_values}
use Rattle.tracked_alike.proofs.laws.united_law.Goals as goal

pub returns-clause-turned : goal.returns-clause-turned
returns-clause-turned c = united_turned

pub returns-clause-again : goal.returns-clause-again
returns-clause-again c = united_again

pub returns-clause-values : goal.returns-clause-values
returns-clause-values c = united_values
