use Rattle.std.proofs.Common.{◌≡◌, map, take}
use Rattle.std.specs.Ordering.{nat_cmp}
use Rattle.std.specs.BTreeMap.{get}
use Rattle.trimmed_logs.specs.Kept.{named}
use Rattle.trimmed_logs.proofs.trimming.renamed_chain.Given as goal

-- renamed so far
abbrev pub invariant-loop-id : goal.invariant-loop-id
invariant-loop-id l = l.renamed.items ≡ map (named (λ n. get nat_cmp l.names n)) (take l.id-index l.chain)
