use Rattle.held_values.proofs.Held.{held_known}
use Rattle.held_values.proofs.laws.values_law.Goals as goal

pub returns : goal.returns
returns c tracked files destination failures environment tables len net limits may stable below router slot rec is
    holds =
    held_known tracked files destination failures environment tables len net limits may stable below router slot rec is
    holds
