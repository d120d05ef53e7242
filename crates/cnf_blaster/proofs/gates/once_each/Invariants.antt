use Rattle.std.proofs.Common.{◌≡◌, ◌++◌, drop}
use Rattle.cnf_blaster.specs.Cnf.{distinct}
use Rattle.cnf_blaster.proofs.gates.once_each.Given as goal

abbrev pub invariant-loop-i : goal.invariant-loop-i
invariant-loop-i l = l.once.items ++ distinct (drop l.i l.lits) ≡ distinct l.lits
