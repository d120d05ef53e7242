use Rattle.std.proofs.Common.{◌≡◌, take}
use Rattle.ios_policy_reader.specs.Said.{pattern_said}
use Rattle.ios_policy_reader.proofs.said.last_pattern.Given as goal

abbrev pub invariant-loop-one : goal.invariant-loop-one
invariant-loop-one l = l.pattern ≡ pattern_said (take l.one-index l.said)
