use Rattle.cex_json.proofs.Written.{ospf_back, rib_back}
use Rattle.cex_json.proofs.WrittenPackets.{packet_back}
use Rattle.cex_json.proofs.WrittenRoutes.{bgp_back}
use Rattle.cex_json.proofs.laws.parts_law.Goals as goal

pub returns-clause-packet : goal.returns-clause-packet
returns-clause-packet c = packet_back

pub returns-clause-ospf : goal.returns-clause-ospf
returns-clause-ospf c = ospf_back

pub returns-clause-rib : goal.returns-clause-rib
returns-clause-rib c = rib_back

pub returns-clause-bgp : goal.returns-clause-bgp
returns-clause-bgp c = bgp_back
