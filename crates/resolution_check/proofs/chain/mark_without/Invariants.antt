use Rattle.std.proofs.Common.{◌≡◌, ◌||◌, take}
use Rattle.resolution_check.specs.declared.log.Lit.{Lit}
use Rattle.resolution_check.specs.Clauses.{has, without}
use Rattle.resolution_check.specs.Marked.{marked}
use Rattle.resolution_check.proofs.chain.mark_without.Given as goal

-- marked so far
abbrev pub invariant-loop-lit : goal.invariant-loop-lit
invariant-loop-lit l =
    (k : Lit) → marked l.marks k ≡ (has (without (take l.lit-index l.clause) l.gone) k || marked l.fn.marks k)
