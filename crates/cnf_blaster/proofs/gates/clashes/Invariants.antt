use Rattle.std.proofs.Common.{◌≡◌, false, take}
use Rattle.std.specs.List.{list_any}
use Rattle.resolution_check.specs.Clauses.{has, opposite}
use Rattle.cnf_blaster.proofs.gates.clashes.Given as goal

abbrev pub invariant-loop-lit : goal.invariant-loop-lit
invariant-loop-lit l = list_any (λ k. has l.lits (opposite k)) (take l.lit-index l.lits) ≡ false
