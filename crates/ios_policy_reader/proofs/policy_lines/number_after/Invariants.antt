use Rattle.std.proofs.Common.{◌≡◌, ◌<◌, ◌^◌, max, fold, take}
use Rattle.ios_policy_reader.proofs.policy_lines.number_after.Given as goal

abbrev pub invariant-loop-entry : goal.invariant-loop-entry
invariant-loop-entry l =
    (l.highest ≡ fold (λ n entry. max n entry.seq) 0 (take l.entry-index l.entries)) × (l.highest < 2 ^ 32)
