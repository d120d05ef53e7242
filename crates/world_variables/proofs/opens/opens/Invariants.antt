use Rattle.std.proofs.Common.{◌≡◌, ◌≤◌, ◌+◌, ◌++◌, drop, length, map}
use Rattle.term_store.specs.Terms.{Reading, size}
use Rattle.term_store.specs.Reading.{Reads, Grows}
use Rattle.world_variables.specs.Symbols.{open_of, opens_end}
use Rattle.world_variables.specs.Unknowns.{rooms_at, unknowns_from, unknowns_width}
use Rattle.world_variables.proofs.opens.opens.Given as goal

abbrev pub invariant-loop-p : goal.invariant-loop-p
invariant-loop-p l = record {
  grows : Grows l.fn.terms l.terms;
  within : opens_end l.made ≤ size l.terms;
  length_is : length l.made ≡ l.p-index;
  vars : l.terms.vars + unknowns_width (rooms_at l.files l.destinations (drop l.p-index l.places))
      ≡ l.fn.terms.vars + unknowns_width (rooms_at l.files l.destinations l.places);
  value : (w : Reading) → Reads w l.terms → map (open_of w) l.made
      ++ unknowns_from (rooms_at l.files l.destinations (drop l.p-index l.places)) w.variable l.terms.vars
      ≡ unknowns_from (rooms_at l.files l.destinations l.places) w.variable l.fn.terms.vars;
}
