use Rattle.std.proofs.Common.{◌≡◌}
use Rattle.proto_ospf.specs.Rounds.{rounds}
use Rattle.proto_ospf.proofs.rounds.distances_after.Given as goal

-- so many rounds have been done
abbrev pub invariant-loop : goal.invariant-loop
invariant-loop l = l.before ≡ rounds l.own l.receivers l.counter
