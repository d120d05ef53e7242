use Rattle.std.proofs.Common.{◌≡◌, ◌+◌, ◌≤◌, length}
use Rattle.slot_places.specs.Values.{address_numbers}
use Rattle.term_store.specs.Terms.{Reading, size}
use Rattle.term_store.specs.Reading.{Builds, Reads}
use Rattle.term_arith.specs.Bits.{ids_end, number}
use Rattle.world_variables.proofs.FieldSteps.{later}
use Rattle.world_variables.proofs.fields.address_among.Given as goal

abbrev pub invariant-loop-i : goal.invariant-loop-i
invariant-loop-i l = record {
  builds : Builds l.fn.terms l.terms;
  within : ids_end l.rest.nodes.items ≤ size l.terms;
  width : length l.rest.nodes.items ≡ l.whole;
  value : (w : Reading) → Reads w l.terms → number w l.rest.nodes.items
      ≡ later (address_numbers l.addresses) (l.i + 1) (number w l.place.nodes.items);
}
