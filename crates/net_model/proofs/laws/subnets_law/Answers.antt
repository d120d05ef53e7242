use Rattle.net_model.proofs.OnlyOne.{one_interface, one_subnet, only_subnet}
use Rattle.net_model.proofs.laws.subnets_law.Goals as goal

pub returns-clause-one : goal.returns-clause-one
returns-clause-one c = one_subnet

pub returns-clause-first : goal.returns-clause-first
returns-clause-first c = only_subnet

pub returns-clause-own : goal.returns-clause-own
returns-clause-own c = one_interface
