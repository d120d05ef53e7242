use Rattle.std.proofs.Common.{All, arith, subst}
use Rattle.std.proofs.lemmas.List.{take_all}
use Rattle.std.proofs.lemmas.List.Elements.{All-more}
use Rattle.world_variables.specs.Worlds.{FitsDistance}
use Rattle.routing_worlds.proofs.words.read_statics.Goals as goal

pub loop-route-preserved : goal.loop-route-preserved
loop-route-preserved c =
    let within = c.loop-route-test.true in
    let last = c.loop-route.auto.route-index-end in
    All-more FitsDistance c.args.statics.now c.loop-route.route-index _
    (omega (arith, within, last)) c.loop-route.invariant
    (subst FitsDistance c.route-item.is c.read_distance.ensures)

pub returns : goal.returns
returns c =
    let past = c.loop-route-test.false in
    let last = c.loop-route.auto.route-index-end in
    subst (All FitsDistance)
    (take_all c.loop-route.route-index c.args.statics.now (omega (arith, past, last)))
    c.loop-route.invariant
