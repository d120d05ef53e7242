use Rattle.std.proofs.Common.{◌≡◌, take}
use Rattle.ios_policy_reader.specs.Values.{uses_of}
use Rattle.ios_policy_reader.proofs.values.uses_said.Given as goal

abbrev pub invariant-loop-one : goal.invariant-loop-one
invariant-loop-one l = l.uses-inside.items.items ≡ uses_of l.line l.words (take l.one-index l.said)
