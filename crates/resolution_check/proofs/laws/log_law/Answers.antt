use Rattle.resolution_check.proofs.LogLines.{lines-log_text, same_log}
use Rattle.resolution_check.proofs.laws.log_law.Goals as goal

pub returns-clause-lines : goal.returns-clause-lines
returns-clause-lines c = lines-log_text

pub returns-clause-fixed : goal.returns-clause-fixed
returns-clause-fixed c = same_log
