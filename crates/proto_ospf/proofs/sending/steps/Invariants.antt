use Rattle.std.proofs.Common.{◌≡◌, drop}
use Rattle.proto_ospf.specs.Steps.{steps}
use Rattle.proto_ospf.proofs.sending.steps.Given as goal

-- the prefixes that are left decide
abbrev pub invariant-loop-x : goal.invariant-loop-x
invariant-loop-x l = steps l.all l.up l.router l.a ≡ steps (drop l.x-index l.all) l.up l.router l.a
