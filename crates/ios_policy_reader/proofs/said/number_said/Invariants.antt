use Rattle.std.proofs.Common.{◌≡◌, take}
use Rattle.ios_policy_reader.specs.Said.{number_under}
use Rattle.ios_policy_reader.proofs.said.number_said.Given as goal

abbrev pub invariant-loop-one : goal.invariant-loop-one
invariant-loop-one l = l.number ≡ number_under l.tag (take l.one-index l.said) l.otherwise
