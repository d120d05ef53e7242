use Rattle.std.proofs.Common.{◌+◌, ◌*◌, length}
use Rattle.sym_forwarding.proofs.LeastWalks.{row_bounded}
use Rattle.sym_forwarding.proofs.distances.distance_of.Goals as goal

pub returns-then-router-routers-clause-within : goal.returns-then-router-routers-clause-within
returns-then-router-routers-clause-within c =
    row_bounded c.args.sym.now.igp c.as_slice.result.now
    (c.args.router * length c.advertised.result.now + c.args.k) c.at_row.result c.as_slice.ensures c.at_row.ensures
