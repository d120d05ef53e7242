use Rattle.std.proofs.Common.{◌≡◌, ◌≤◌, ◌+◌, ◌++◌, drop, length}
use Rattle.term_store.specs.Terms.{truth}
use Rattle.world_variables.specs.Unknowns.{rooms_at, unknowns_from, unknowns_width}
use Rattle.world_variables.proofs.tables.unknowns_at.Given as goal

abbrev pub invariant-loop-p : goal.invariant-loop-p
invariant-loop-p l = record {
  within : l.at + unknowns_width (rooms_at l.files l.destinations (drop l.p-index l.places)) ≤ length l.values;
  made : l.made ++ unknowns_from (rooms_at l.files l.destinations (drop l.p-index l.places)) (truth l.values) l.at
      ≡ unknowns_from (rooms_at l.files l.destinations l.places) (truth l.values) l.from;
}
