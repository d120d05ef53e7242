use Rattle.std.proofs.Common.{◌≡◌, take}
use Rattle.ios_policy_reader.specs.Values.{naming_value}
use Rattle.ios_policy_reader.proofs.values.last_naming.Given as goal

abbrev pub invariant-loop-one : goal.invariant-loop-one
invariant-loop-one l = l.value ≡ naming_value (take l.one-index l.said)
