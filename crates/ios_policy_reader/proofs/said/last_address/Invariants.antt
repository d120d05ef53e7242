use Rattle.std.proofs.Common.{◌≡◌, take}
use Rattle.ios_policy_reader.specs.Said.{address_said}
use Rattle.ios_policy_reader.proofs.said.last_address.Given as goal

abbrev pub invariant-loop-one : goal.invariant-loop-one
invariant-loop-one l = l.address ≡ address_said (take l.one-index l.said)
