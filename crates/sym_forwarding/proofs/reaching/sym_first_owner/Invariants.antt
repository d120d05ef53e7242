use Rattle.std.proofs.Common.{◌≤◌, take}
use Rattle.term_store.specs.Terms.{Reading, size}
use Rattle.term_store.specs.Reading.{Reads, Builds}
use Rattle.net_interfaces.specs.Interfaces.{addressed}
use Rattle.sym_policy.specs.Held.{failures_of}
use Rattle.sym_policy.specs.Records.{address_of}
use Rattle.sym_forwarding.specs.Aims.{sought_by}
use Rattle.sym_forwarding.specs.Firsts.{IsFirstIn, first_end, is_owner, owner_arrives}
use Rattle.sym_policy.specs.Packets.{packet_of}
use Rattle.sym_forwarding.proofs.reaching.sym_first_owner.Given as goal

-- the first of the interfaces so far
abbrev pub invariant-loop-x : goal.invariant-loop-x
invariant-loop-x l = record {
  builds : Builds l.fn.terms l.terms;
  within : first_end l.first ≤ size l.terms;
  value : (w : Reading) → Reads w l.terms → IsFirstIn w (sought_by w l.sent.aim.now)
      (is_owner l.sent.net.now.files (failures_of w l.sent.sym.now) l.subnet (address_of w l.a))
      (owner_arrives l.sent.net.now.files (packet_of w l.sent.packet.now))
      (take l.x-index (addressed l.sent.net.now.files)) l.first;
}
