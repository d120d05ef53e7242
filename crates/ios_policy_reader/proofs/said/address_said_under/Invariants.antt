use Rattle.std.proofs.Common.{◌≡◌, take}
use Rattle.ios_policy_reader.specs.Said.{address_under}
use Rattle.ios_policy_reader.proofs.said.address_said_under.Given as goal

abbrev pub invariant-loop-one : goal.invariant-loop-one
invariant-loop-one l = l.address ≡ address_under l.tag (take l.one-index l.said) l.fn.otherwise
