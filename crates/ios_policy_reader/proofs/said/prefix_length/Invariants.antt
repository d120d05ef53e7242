use Rattle.std.proofs.Common.{◌≡◌, take}
use Rattle.ios_policy_reader.specs.Said.{length_said}
use Rattle.ios_policy_reader.proofs.said.prefix_length.Given as goal

abbrev pub invariant-loop-one : goal.invariant-loop-one
invariant-loop-one l = l.length ≡ length_said (take l.one-index l.said)
