use Rattle.igp_variables.proofs.Ends.{no_inner}
use Rattle.igp_variables.proofs.laws.ends_law.Goals as goal

pub returns : goal.returns
returns c files none = no_inner files none
