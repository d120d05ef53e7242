use Rattle.std.proofs.Common.{All, arith, subst}
use Rattle.std.proofs.lemmas.List.{take_all}
use Rattle.std.proofs.lemmas.List.Elements.{All-more}
use Rattle.route_record.specs.Fits.{IsWord}
use Rattle.routing_worlds.proofs.WordSteps.{words_pass}
use Rattle.routing_worlds.proofs.words.read_words.Goals as goal

pub loop-value-preserved : goal.loop-value-preserved
loop-value-preserved c =
    let within = c.loop-value-test.true in
    let last = c.loop-value.auto.value-index-end in
    All-more IsWord c.args.values.now c.loop-value.value-index _
    (omega (arith, within, last)) c.loop-value.invariant
    c.word.ensures

pub returns-clause-all : goal.returns-clause-all
returns-clause-all c =
    let past = c.loop-value-test.false in
    let last = c.loop-value.auto.value-index-end in
    subst (All IsWord)
    (take_all c.loop-value.value-index c.args.values.now (omega (arith, past, last)))
    c.loop-value.invariant

pub returns-clause-tested : goal.returns-clause-tested
returns-clause-tested c =
    let past = c.loop-value-test.false in
    let last = c.loop-value.auto.value-index-end in
    words_pass c.args.values.now (subst (All IsWord)
    (take_all c.loop-value.value-index c.args.values.now (omega (arith, past, last))) c.loop-value.invariant)
