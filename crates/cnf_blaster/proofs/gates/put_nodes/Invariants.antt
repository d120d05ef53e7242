use Rattle.std.proofs.Common.{◌≡◌, ℕ, ◌<◌, ◌++◌}
use Rattle.term_store.specs.Terms.{size}
use Rattle.cnf_blaster.specs.Cnf.{clauses_below}
use Rattle.cnf_blaster.specs.Laws.{marked, number_at}
use Rattle.cnf_blaster.proofs.gates.put_nodes.Given as goal

abbrev pub invariant-loop-number : goal.invariant-loop-number
invariant-loop-number l =
    (var : ℕ → ℕ) → ((i : ℕ) → i < size l.terms → number_at l.numbers i ≡ var i)
    → l.clauses ≡ l.initial.clauses ++ clauses_below (marked l.marks) var l.terms.nodes l.number
