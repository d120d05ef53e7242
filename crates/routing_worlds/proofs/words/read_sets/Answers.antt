use Rattle.std.proofs.Common.{All, arith, subst}
use Rattle.std.proofs.lemmas.List.{take_all}
use Rattle.std.proofs.lemmas.List.Elements.{All-more}
use Rattle.rebuilt_routes.specs.Words.{SetsWords}
use Rattle.routing_worlds.proofs.words.read_sets.Goals as goal

pub loop-act-preserved : goal.loop-act-preserved
loop-act-preserved c =
    let within = c.loop-act-test.true in
    let last = c.loop-act.auto.act-index-end in
    All-more SetsWords c.args.sets.now c.loop-act.act-index _
    (omega (arith, within, last)) c.loop-act.invariant
    (subst SetsWords c.act-item.is c.read_set.ensures)

pub returns : goal.returns
returns c =
    let past = c.loop-act-test.false in
    let last = c.loop-act.auto.act-index-end in
    subst (All SetsWords)
    (take_all c.loop-act.act-index c.args.sets.now (omega (arith, past, last)))
    c.loop-act.invariant
