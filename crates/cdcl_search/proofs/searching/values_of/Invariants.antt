use Rattle.resolution_check.specs.Trails.{is_value, value_of}
use Rattle.std.proofs.Common.{◌≡◌, ℕ, ◌<◌, true, length}
use Rattle.term_store.specs.Terms.{truth}
use Rattle.cdcl_search.proofs.searching.values_of.Given as goal

abbrev pub invariant-loop-var : goal.invariant-loop-var
invariant-loop-var l = record {
  len : length l.values-inside.items.items ≡ l.var;
  values : (var : ℕ) → var < l.var
      → truth l.values-inside.items.items var ≡ is_value (value_of l.assigned.lits var) true;
}
