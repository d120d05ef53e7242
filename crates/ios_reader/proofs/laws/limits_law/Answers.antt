use Rattle.ios_reader.proofs.KeptLimits.{read_limits, read_entries}
use Rattle.ios_reader.proofs.laws.limits_law.Goals as goal

pub returns-clause-limits : goal.returns-clause-limits
returns-clause-limits c = read_limits

pub returns-clause-entries : goal.returns-clause-entries
returns-clause-entries c = read_entries
