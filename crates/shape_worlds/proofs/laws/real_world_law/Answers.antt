use Rattle.shape_worlds.proofs.RealWorlds.{is_real}
use Rattle.shape_worlds.proofs.laws.real_world_law.Goals as goal

pub returns : goal.returns
returns c tracked files s net limits holds = is_real tracked files s net limits holds
