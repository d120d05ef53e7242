use Rattle.igp_variables.proofs.Reading.{rows_then}
use Rattle.igp_variables.proofs.laws.rows_law.Goals as goal

pub returns : goal.returns
returns c files failures v from rest limits few here = rows_then files failures v from rest limits few here
