use Rattle.std.proofs.Common.{◌≡◌, ◌<◌, true}
use Rattle.std.specs.Prelude.{◌↔◌}
use Rattle.term_store.specs.Terms.{Reading, at, size}
use Rattle.term_store.specs.Reading.{Reads, Builds}
use Rattle.compared_terms.specs.Ties.{DifferBelow}
use Rattle.compared_terms.proofs.differing.some_differ.Given as goal

-- whether some nodes at the places so far differ
abbrev pub invariant-loop-at : goal.invariant-loop-at
invariant-loop-at l = record {
  builds : Builds l.fn.terms l.terms;
  within : l.any.0 < size l.terms;
  value : (w : Reading) → Reads w l.terms → at w l.any ≡ true ↔ DifferBelow w l.places l.a l.b l.at;
}
