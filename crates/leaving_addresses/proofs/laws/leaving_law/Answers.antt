use Rattle.leaving_addresses.proofs.Held.{hop_leaves}
use Rattle.leaving_addresses.proofs.laws.leaving_law.Goals as goal

pub returns : goal.returns
returns c tracked files world environment net limits may stable router a hop =
    hop_leaves tracked files world environment net limits may stable router a hop
