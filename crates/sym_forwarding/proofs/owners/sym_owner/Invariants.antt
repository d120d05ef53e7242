use Rattle.std.proofs.Common.{◌≤◌, ◌∷◌, [], drop}
use Rattle.term_store.specs.Terms.{Reading, size}
use Rattle.term_store.specs.Reading.{Reads, Builds}
use Rattle.question_lang.specs.declared.walk.Hop.{Hop}
use Rattle.sym_policy.specs.Held.{failures_of}
use Rattle.sym_policy.specs.Records.{address_of}
use Rattle.sym_forwarding.specs.Aims.{sought_by}
use Rattle.sym_forwarding.specs.Owners.{owner_hop}
use Rattle.sym_policy.specs.Packets.{packet_of}
use Rattle.sym_forwarding.specs.Symbolic.{forwarding_end, forwarding_of}
use Rattle.sym_forwarding.specs.Twins.{IsTwin}
use Rattle.sym_forwarding.proofs.owners.sym_owner.Given as goal

abbrev pub invariant-loop-i : goal.invariant-loop-i
invariant-loop-i l = record {
  builds : Builds l.fn.terms l.terms;
  within : forwarding_end l.rest ≤ size l.terms;
  value : (w : Reading) → Reads w l.terms → (hop : Hop) → IsTwin (sought_by w l.sent.aim.now) (hop ∷ []) (forwarding_of w
      l.fn.other) →
      IsTwin (sought_by w l.sent.aim.now)
      (owner_hop l.sent.net.now.files (failures_of w l.sent.sym.now) (packet_of w l.sent.packet.now) l.subnet
      (address_of w l.a) hop (drop l.i l.all)
      ∷ [])
      (forwarding_of w l.rest);
}
