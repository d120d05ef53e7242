use Rattle.std.proofs.Common.{◌≡◌, ◌++◌, map, take, drop}
use Rattle.clause_arena.specs.Compacted.{reason_renamed}
use Rattle.clause_arena.proofs.compacting.rename_reasons.Given as goal

abbrev pub invariant-loop-reason : goal.invariant-loop-reason
invariant-loop-reason l =
    l.reasons ≡ map (reason_renamed l.refs l.moved) (take l.reason-index l.fn.reasons) ++ drop
    l.reason-index l.fn.reasons
