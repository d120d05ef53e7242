use Rattle.bgp_equations.proofs.Environments.{id_within}
use Rattle.peers_beside.proofs.peers.id_at.Goals as goal

pub returns-clause-within : goal.returns-clause-within
returns-clause-within c = id_within c.args.ids.now c.args.k c.item.result c.item.ensures
