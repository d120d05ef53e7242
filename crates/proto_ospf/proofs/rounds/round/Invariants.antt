use Rattle.std.proofs.Common.{◌≡◌, ◌++◌, drop, map}
use Rattle.proto_ospf.specs.Rounds.{nearest}
use Rattle.proto_ospf.proofs.rounds.round.Given as goal

-- those so far, with those of the routers that are left, are all
abbrev pub invariant-loop-x : goal.invariant-loop-x
invariant-loop-x l =
    l.after-inside.items.items ++ map (nearest l.own l.before) (drop l.x-index l.receivers)
    ≡ map (nearest l.own l.before) l.receivers
