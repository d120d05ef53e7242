use Rattle.export_terms.proofs.Anys.{any_each, any_some}
use Rattle.export_terms.proofs.laws.any_law.Goals as goal

pub returns-clause-some : goal.returns-clause-some
returns-clause-some c = any_some

pub returns-clause-each : goal.returns-clause-each
returns-clause-each c = any_each
