use Rattle.config_prepare.proofs.EachLine.{prepared_count, prepared_each}
use Rattle.config_prepare.proofs.laws.lines_law.Goals as goal

pub returns-clause-count : goal.returns-clause-count
returns-clause-count c = prepared_count

pub returns-clause-each : goal.returns-clause-each
returns-clause-each c = prepared_each
