use Rattle.std.proofs.Common.{◌≡◌, ◌<◌, drop}
use Rattle.term_store.specs.Terms.{Reading, at, size}
use Rattle.term_store.specs.Reading.{Reads, Builds}
use Rattle.net_parts.specs.Ospf.{advertised}
use Rattle.sym_policy.specs.Held.{failures_of}
use Rattle.sym_policy.specs.Records.{address_of}
use Rattle.sym_ospf.specs.Rows.{HasDistances}
use Rattle.sym_forwarding.specs.Towards.{leads_by}
use Rattle.sym_forwarding.proofs.distances.sym_leads.Given as goal

abbrev pub invariant-loop-k : goal.invariant-loop-k
invariant-loop-k l = record {
  builds : Builds l.fn.terms l.terms;
  within : l.rest.0 < size l.terms;
  value : (w : Reading) → Reads w l.terms → HasDistances w l.net.files l.sym → at w l.rest
      ≡ leads_by l.net.files (failures_of w l.sym) l.router (address_of w l.a) l.x (drop l.k (advertised l.net.files));
}
