use Rattle.std.proofs.Common.{◌≡◌, ◌&&◌, not, take}
use Rattle.resolution_check.specs.declared.log.Lit.{Lit}
use Rattle.resolution_check.specs.Clauses.{has}
use Rattle.resolution_check.specs.Marked.{marked}
use Rattle.resolution_check.proofs.chain.unmark_all.Given as goal

-- marked still
abbrev pub invariant-loop-lit : goal.invariant-loop-lit
invariant-loop-lit l = (k : Lit) → marked l.marks k ≡ (not (has (take l.lit-index l.clause) k) && marked l.fn.marks k)
