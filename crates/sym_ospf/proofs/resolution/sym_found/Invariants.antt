use Rattle.std.proofs.Common.{◌≡◌, ◌≤◌, drop}
use Rattle.term_store.specs.Terms.{Reading, size}
use Rattle.term_store.specs.Reading.{Reads, Builds}
use Rattle.net_parts.specs.Ospf.{advertised}
use Rattle.sym_policy.specs.Held.{failures_of, ospf_of, ospf_end}
use Rattle.sym_policy.specs.Records.{address_of}
use Rattle.sym_ospf.specs.Reached.{found}
use Rattle.sym_ospf.specs.Rows.{HasDistances}
use Rattle.sym_ospf.proofs.resolution.sym_found.Given as goal

abbrev pub invariant-loop-k : goal.invariant-loop-k
invariant-loop-k l = record {
  builds : Builds l.fn.terms l.terms;
  within : ospf_end l.rest ≤ size l.terms;
  value : (w : Reading) → Reads w l.terms → HasDistances w l.hop.net.now.files l.hop.sym.now → ospf_of w l.rest
      ≡ found l.hop.net.now.files (failures_of w l.hop.sym.now) l.hop.router (address_of w l.hop.a.now)
      (drop l.k (advertised l.hop.net.now.files));
}
