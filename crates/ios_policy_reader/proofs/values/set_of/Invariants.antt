use Rattle.std.proofs.Common.{◌≡◌, take}
use Rattle.std.specs.BTreeSet.{keys}
use Rattle.ios_policy_reader.specs.Values.{ascending}
use Rattle.ios_policy_reader.proofs.values.set_of.Given as goal

abbrev pub invariant-loop-number : goal.invariant-loop-number
invariant-loop-number l = keys l.set ≡ ascending (take l.number-index l.numbers)
