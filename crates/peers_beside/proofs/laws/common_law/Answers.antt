use Rattle.peers_beside.proofs.CommonShapes.{common_made, common_shaped}
use Rattle.peers_beside.proofs.laws.common_law.Goals as goal

pub returns-clause-from : goal.returns-clause-from
returns-clause-from c = common_made

pub returns-clause-to : goal.returns-clause-to
returns-clause-to c = common_shaped
