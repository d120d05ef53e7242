use Rattle.std.proofs.Common.{◌≤◌, drop}
use Rattle.term_store.specs.Terms.{Reading, size}
use Rattle.term_store.specs.Reading.{Reads, Builds}
use Rattle.sym_policy.specs.Held.{failures_of}
use Rattle.sym_policy.specs.Records.{prefix_of}
use Rattle.term_arith.specs.Bits.{number}
use Rattle.sym_forwarding.specs.Aims.{sought_by}
use Rattle.sym_policy.specs.Packets.{packet_of}
use Rattle.sym_forwarding.specs.Statics.{routes_hops}
use Rattle.sym_forwarding.specs.Symbolic.{forwarding_end, forwarding_of}
use Rattle.sym_forwarding.specs.Twins.{IsTwin}
use Rattle.sym_forwarding.proofs.statics.sym_statics.Given as goal

abbrev pub invariant-loop-i : goal.invariant-loop-i
invariant-loop-i l = record {
  builds : Builds l.fn.terms l.terms;
  within : forwarding_end l.rest ≤ size l.terms;
  value : (w : Reading) → Reads w l.terms → IsTwin (sought_by w l.sent.aim.now)
      (routes_hops l.sent.net.now.files (failures_of w l.sent.sym.now) (packet_of w l.sent.packet.now) l.router
      (prefix_of w l.sent.packet.now.dst l.len)
      (number w l.distance.nodes.items) (drop l.i l.routes))
      (forwarding_of w l.rest);
}
