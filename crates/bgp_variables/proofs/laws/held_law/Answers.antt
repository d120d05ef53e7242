use Rattle.bgp_variables.proofs.Fitting.{held_fits}
use Rattle.bgp_variables.proofs.laws.held_law.Goals as goal

pub returns : goal.returns
returns c files destination failures environment tables tracked net limits may stable router len slot below there =
    held_fits files destination failures environment tables tracked net limits may stable router len slot below there
