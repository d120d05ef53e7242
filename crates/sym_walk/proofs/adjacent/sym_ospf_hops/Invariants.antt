use Rattle.std.proofs.Common.{◌≤◌, drop}
use Rattle.term_store.specs.Terms.{Reading, size}
use Rattle.term_store.specs.Reading.{Reads, Builds}
use Rattle.sym_policy.specs.Held.{failures_of, ospf_of}
use Rattle.sym_policy.specs.Records.{prefix_of}
use Rattle.sym_forwarding.specs.Aims.{sought_by}
use Rattle.sym_forwarding.specs.Offers.{offered_hops}
use Rattle.sym_policy.specs.Packets.{packet_of}
use Rattle.sym_forwarding.specs.Symbolic.{forwarding_end, forwarding_of}
use Rattle.sym_forwarding.specs.Twins.{IsTwin}
use Rattle.sym_rib.specs.Worlds.{read_tables}
use Rattle.sym_walk.proofs.adjacent.sym_ospf_hops.Given as goal

abbrev pub invariant-loop-i : goal.invariant-loop-i
invariant-loop-i l = record {
  builds : Builds l.fn.terms l.terms;
  within : forwarding_end l.rest ≤ size l.terms;
  value : (w : Reading) → Reads w l.terms → IsTwin (sought_by w l.aim)
      (offered_hops l.stop.net.now.files (failures_of w l.stop.sym.now) (packet_of w l.stop.packet.now)
      (read_tables w l.stop.tables.now) l.stop.router
      (prefix_of w l.stop.packet.now.dst l.len) (ospf_of w l.held) (drop l.i l.all))
      (forwarding_of w l.rest);
}
