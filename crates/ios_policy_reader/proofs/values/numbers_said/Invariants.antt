use Rattle.std.proofs.Common.{◌≡◌, take}
use Rattle.ios_policy_reader.specs.Values.{numbers_under}
use Rattle.ios_policy_reader.proofs.values.numbers_said.Given as goal

abbrev pub invariant-loop-one : goal.invariant-loop-one
invariant-loop-one l = l.numbers-inside.items.items ≡ numbers_under l.tag (take l.one-index l.said)
