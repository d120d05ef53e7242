use Rattle.std.proofs.Common.{◌≡◌, ◌≤◌, length, take}
use Rattle.std.specs.Prelude.{IfSome}
use Rattle.ios_policy_reader.specs.Heads.{row_among}
use Rattle.ios_policy_reader.proofs.heads.longest.Given as goal

abbrev pub invariant-loop-head : goal.invariant-loop-head
invariant-loop-head l =
    (l.best ≡ row_among (take l.head-index l.heads) l.context l.words)
    × IfSome l.best (λ found. found.head ≤ length l.words)
