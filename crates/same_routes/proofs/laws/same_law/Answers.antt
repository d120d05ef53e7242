use Rattle.same_routes.proofs.SameRoutes.{same_rec_decides}
use Rattle.same_routes.proofs.SameSlots.{bgp_decides, ospf_decides, rib_decides, slot_decides}
use Rattle.same_routes.proofs.laws.same_law.Goals as goal

pub returns-clause-route : goal.returns-clause-route
returns-clause-route c a b = same_rec_decides a b

pub returns-clause-ospf : goal.returns-clause-ospf
returns-clause-ospf c a b = ospf_decides a b

pub returns-clause-bgp : goal.returns-clause-bgp
returns-clause-bgp c a b = bgp_decides a b

pub returns-clause-rib : goal.returns-clause-rib
returns-clause-rib c a b = rib_decides a b

pub returns-clause-slot : goal.returns-clause-slot
returns-clause-slot c a b = slot_decides a b
