use Rattle.std.proofs.Common.{◌≡◌, drop}
use Rattle.std.specs.Prelude.{fold}
use Rattle.std.specs.List.{filter_map}
use Rattle.proto_ospf.specs.Rounds.{lower, nearest, over}
use Rattle.proto_ospf.proofs.rounds.nearest.Given as goal

-- the best so far, with the adjacencies that are left, is the least of all
abbrev pub invariant-loop-a : goal.invariant-loop-a
invariant-loop-a l =
    fold lower l.best (filter_map (over l.before) (drop l.a-index l.x.adjacencies)) ≡ nearest l.own l.before l.x
