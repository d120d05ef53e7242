use Rattle.std.proofs.Common.{◌≡◌, true, take}
use Rattle.std.specs.List.{list_all}
use Rattle.cnf_blaster.specs.Proper.{is_fit}
use Rattle.cnf_blaster.proofs.Cnf.is_proper.Given as goal

abbrev pub invariant-loop-clause : goal.invariant-loop-clause
invariant-loop-clause l = list_all (λ k. is_fit l.self.vars k.lits) (take l.clause-index l.self.clauses) ≡ true
