use Rattle.std.proofs.Common.{◌≤◌, drop}
use Rattle.term_store.specs.Terms.{Reading, size}
use Rattle.term_store.specs.Reading.{Reads, Builds}
use Rattle.sym_ospf.specs.Rows.{HasDistances}
use Rattle.sym_policy.specs.Held.{failures_of}
use Rattle.sym_policy.specs.Records.{address_of}
use Rattle.sym_forwarding.specs.Aims.{sought_by}
use Rattle.sym_policy.specs.Packets.{packet_of}
use Rattle.sym_forwarding.specs.Symbolic.{forwarding_end, forwarding_of}
use Rattle.sym_forwarding.specs.Towards.{led_hops}
use Rattle.sym_forwarding.specs.Twins.{IsTwin}
use Rattle.sym_forwarding.proofs.towards.sym_led.Given as goal

abbrev pub invariant-loop-i : goal.invariant-loop-i
invariant-loop-i l = record {
  builds : Builds l.fn.terms l.terms;
  within : forwarding_end l.rest ≤ size l.terms;
  value : (w : Reading) → Reads w l.terms → HasDistances w l.sent.net.now.files l.sent.sym.now → IsTwin
      (sought_by w l.sent.aim.now)
      (led_hops l.sent.net.now.files (failures_of w l.sent.sym.now) (packet_of w l.sent.packet.now) l.router
      (address_of w l.a) (drop l.i l.all))
      (forwarding_of w l.rest);
}
