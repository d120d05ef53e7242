use Rattle.net_model.proofs.OnlyOne.{one_advertised, only_advertised}
use Rattle.net_model.proofs.laws.advertised_law.Goals as goal

pub returns-clause-one : goal.returns-clause-one
returns-clause-one c = one_advertised

pub returns-clause-first : goal.returns-clause-first
returns-clause-first c = only_advertised
