use Rattle.sliced_routings.proofs.Bare.{bare_off}
use Rattle.sliced_routings.proofs.laws.bare_law.Goals as goal

pub returns : goal.returns
returns c files plan fits some d len short off = bare_off files plan fits some d len short off
