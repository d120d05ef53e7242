use Rattle.sym_policy.proofs.SameNodes.{bgp_within}
use Rattle.sym_rib.proofs.bare.no_bgp.Goals as goal

pub returns-clause-within : goal.returns-clause-within
returns-clause-within c = bgp_within c.in_ok-rec.rec _ c.in_ok-rec.ensures.within
