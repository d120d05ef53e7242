use Rattle.std.proofs.Common.{◌≡◌, ◌+◌, ◌++◌, drop, length, map}
use Rattle.std.specs.Ordering.{nat_cmp}
use Rattle.std.specs.BTreeMap.{get}
use Rattle.trimmed_logs.specs.Kept.{named, numbered}
use Rattle.trimmed_logs.proofs.trimming.push_all.Given as goal

-- what was appended, and what the rest comes to
abbrev pub invariant-loop-entry : goal.invariant-loop-entry
invariant-loop-entry l =
    l.out.items ++ numbered (length l.out.items + 1) (named (λ n. get nat_cmp l.names n))
    (map (λ e. e.now) (drop l.entry-index l.kept))
    ≡ l.fn.out.items ++ numbered (length l.fn.out.items + 1) (λ n. n) (map (λ e. e.now) l.kept)
