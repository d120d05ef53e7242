use Rattle.shape_worlds.proofs.RealWorlds.{stable_holds}
use Rattle.shape_worlds.proofs.laws.stable_law.Goals as goal

pub returns : goal.returns
returns c tracked files world environment net limits may stable =
    stable_holds tracked files world environment net limits may stable
