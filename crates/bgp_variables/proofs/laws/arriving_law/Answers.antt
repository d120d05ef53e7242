use Rattle.bgp_variables.proofs.ArrivedAgain.{arriving_again}
use Rattle.bgp_variables.proofs.laws.arriving_law.Goals as goal

pub returns : goal.returns
returns c tracked files s lens slots p at end may up has there =
    arriving_again tracked files s.announced may s.ids lens slots p at end up has there
