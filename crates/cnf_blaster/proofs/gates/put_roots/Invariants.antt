use Rattle.std.proofs.Common.{◌≡◌, ℕ, ◌<◌, ◌++◌, take, length}
use Rattle.cnf_blaster.specs.Cnf.{root_clauses}
use Rattle.cnf_blaster.specs.Laws.{number_at}
use Rattle.cnf_blaster.proofs.gates.put_roots.Given as goal

abbrev pub invariant-loop-root : goal.invariant-loop-root
invariant-loop-root l =
    (var : ℕ → ℕ) → ((i : ℕ) → i < length l.numbers → number_at l.numbers i ≡ var i)
    → l.clauses ≡ l.initial.clauses ++ root_clauses var (take l.root-index l.roots)
