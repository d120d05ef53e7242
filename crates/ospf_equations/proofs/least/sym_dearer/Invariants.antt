use Rattle.std.proofs.Common.{◌≡◌, ◌*◌, ◌<◌, length, true}
use Rattle.route_record.specs.declared.Tables.{Tables}
use Rattle.route_record.specs.declared.TheConstants.{LENGTHS}
use Rattle.sym_policy.specs.Held.{failures_of}
use Rattle.sym_policy.specs.Records.{prefix_of as prefix_read}
use Rattle.term_store.specs.Terms.{Reading, at, size}
use Rattle.term_store.specs.Reading.{Reads, Builds}
use Rattle.ospf_equations.specs.Equations.{StandFor}
use Rattle.ospf_equations.specs.Reached.{AreHeld}
use Rattle.ospf_equations.proofs.least.sym_dearer.Given as goal

abbrev pub invariant-loop-x : goal.invariant-loop-x
invariant-loop-x l = record {
  builds : Builds l.fn.terms l.terms;
  within : l.all.0 < size l.terms;
  value : (w : Reading) → Reads w l.terms → (real : Tables) →
      StandFor w l.place.net.now.tracked l.tables real →
      length real.slots ≡ LENGTHS * length l.place.net.now.files →
      AreHeld l.place.net.now.files (failures_of w l.place.sym.now) real
      (prefix_read w l.place.dst.now l.place.len) → at w l.all ≡ true;
}
