use Rattle.failed_links.proofs.Reading.{IsAt-truth}
use Rattle.world_variables.proofs.laws.row_law.Goals as goal

pub returns : goal.returns
returns c values = IsAt-truth values
