use Rattle.resolution_check.proofs.Lines.{same_entry}
use Rattle.resolution_check.proofs.laws.text_law.Goals as goal

pub returns : goal.returns
returns c = same_entry
