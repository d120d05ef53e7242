use Rattle.std.proofs.Common.{◌≡◌, take, length}
use Rattle.term_store.specs.Terms.{values_of as node_values}
use Rattle.term_arith.proofs.values.values_of.Given as goal

abbrev pub invariant-loop-number : goal.invariant-loop-number
invariant-loop-number l = record {
  found : l.found ≡ node_values (take l.number l.terms.nodes) l.values;
  width : length l.found ≡ l.number;
}
