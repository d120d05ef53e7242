use Rattle.std.proofs.Common.{◌≡◌, arith, map, sym}
use Rattle.proto_ospf.specs.Rounds.{nearest}
use Rattle.proto_ospf.proofs.Staying.{rounds_stay}
use Rattle.proto_ospf.proofs.rounds.distances_after.Goals as goal

-- the round changed nothing
pub returns-then-are_same : goal.returns-then-are_same
returns-then-are_same c =
    let same = c.are_same.ensures.0 c.if-are_same.true in
    let after = c.in_ok-after.ensures in
    let fixed : map (nearest c.args.own.now c.loop.before) c.args.receivers.now
    ≡ c.loop.before = grind (arith, same, after) in
    sym (rounds_stay c.args.own.now c.args.receivers.now c.loop.before c.loop.counter c.args.most c.loop.invariant
    fixed (omega arith))
