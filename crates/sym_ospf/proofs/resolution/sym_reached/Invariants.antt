use Rattle.std.proofs.Common.{◌≡◌, ◌<◌, take}
use Rattle.std.specs.List.{list_any}
use Rattle.term_store.specs.Terms.{Reading, at, size}
use Rattle.term_store.specs.Reading.{Reads, Builds}
use Rattle.net_interfaces.specs.Interfaces.{addressed}
use Rattle.sym_policy.specs.Held.{failures_of}
use Rattle.sym_policy.specs.Records.{address_of}
use Rattle.sym_ospf.specs.Reached.{is_reached_by}
use Rattle.sym_ospf.proofs.resolution.sym_reached.Given as goal

abbrev pub invariant-loop-x : goal.invariant-loop-x
invariant-loop-x l = record {
  builds : Builds l.fn.terms l.terms;
  within : l.any.0 < size l.terms;
  value : (w : Reading) → Reads w l.terms → at w l.any
      ≡ list_any (is_reached_by l.hop.net.now.files (failures_of w l.hop.sym.now) l.hop.router
      (address_of w l.hop.a.now)) (take l.x-index (addressed l.hop.net.now.files));
}
