use Rattle.std.proofs.Common.{◌≡◌, drop}
use Rattle.proto_ospf.specs.Reached.{to_first}
use Rattle.proto_ospf.proofs.reached.to_first.Given as goal

-- the prefixes that are left decide
abbrev pub invariant-loop-x : goal.invariant-loop-x
invariant-loop-x l = to_first l.all l.router l.a ≡ to_first (drop l.x-index l.all) l.router l.a
