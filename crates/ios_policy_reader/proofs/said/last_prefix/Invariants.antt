use Rattle.std.proofs.Common.{◌≡◌, take}
use Rattle.ios_policy_reader.specs.Said.{prefix_said}
use Rattle.ios_policy_reader.proofs.said.last_prefix.Given as goal

abbrev pub invariant-loop-one : goal.invariant-loop-one
invariant-loop-one l = l.prefix ≡ prefix_said (take l.one-index l.said)
