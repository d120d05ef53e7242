use Rattle.loop_free_walks.proofs.Plain.{all_plain}
use Rattle.loop_free_walks.proofs.laws.interior_law.Goals as goal

pub returns : goal.returns
returns c files world environment stable plain = all_plain files world environment stable plain
