use Rattle.held_values.proofs.Fields.{held_fits}
use Rattle.held_values.proofs.laws.fields_law.Goals as goal

pub returns : goal.returns
returns c tracked files destination failures environment tables len net limits may stable below router slot rec is
    holds =
    held_fits tracked files destination failures environment tables len net limits may stable below router slot rec is
    holds
