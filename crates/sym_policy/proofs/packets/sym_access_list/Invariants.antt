use Rattle.std.proofs.Common.{◌≡◌, ◌<◌, drop}
use Rattle.term_store.specs.Terms.{Reading, size, at}
use Rattle.term_store.specs.Reading.{Reads, Builds}
use Rattle.ios_ast.specs.Packets.{packet_permitted}
use Rattle.sym_policy.specs.Records.{header_of}
use Rattle.sym_policy.proofs.packets.sym_access_list.Given as goal

abbrev pub invariant-loop-i : goal.invariant-loop-i
invariant-loop-i l = record {
  builds : Builds l.fn.terms l.terms;
  within : l.rest.0 < size l.terms;
  value : (w : Reading) → Reads w l.terms → at w l.rest ≡ packet_permitted (drop l.i l.entries) (header_of w l.packet);
}
