use Rattle.bgp_variables.proofs.Fitting.{announced_fits}
use Rattle.bgp_variables.proofs.laws.announcement_law.Goals as goal

pub returns : goal.returns
returns c files tracked s is =
    announced_fits tracked is.peer.neighbour s is.peer.path is.med is.origin is.marks
