use Rattle.term_store.specs.Terms.{truth}
use Rattle.cnf_blaster.proofs.Decoding.{IsSoFar}
use Rattle.cnf_blaster.proofs.decode.put_values.Given as goal

abbrev pub invariant-loop-x : goal.invariant-loop-x
invariant-loop-x l = IsSoFar l.terms.nodes l.node_of (truth l.values) l.x l.valuation
