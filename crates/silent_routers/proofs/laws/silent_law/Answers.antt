use Rattle.silent_routers.proofs.Heard.{decided_same}
use Rattle.silent_routers.proofs.laws.silent_law.Goals as goal

pub returns : goal.returns
returns c tracked files failures environment p slots others settled router file held =
    decided_same tracked files environment slots p failures others settled router file held
