use Rattle.std.proofs.Common.{arith, subst}
use Rattle.walk_def.proofs.Known.{fewer_known}
use Rattle.packet_fates.specs.Reaching.{AreClosed, IsLedTo}
use Rattle.packet_fates.proofs.Spreading.{all_reached, first_spread, led_within, more_spread}
use Rattle.packet_fates.proofs.reaching.spread.Goals as goal

pub rounds-init : goal.rounds-init
rounds-init c = first_spread c.args.all.now c.args.start c.args.first.items c.requires.first

pub index_mut-requires : goal.index_mut-requires
index_mut-requires c =
    let all = c.args.all.now in
    let led = led_within all c.in-Some.to c.as_slice.result.now c.requires.inside c.in-Some.ensures.some.1 in
    omega (arith, led, c.rounds.invariant.long)

pub rounds-smaller : goal.rounds-smaller
rounds-smaller c =
    let led = led_within c.args.all.now c.in-Some.to c.as_slice.result.now c.requires.inside c.in-Some.ensures.some.1 in
    fewer_known c.rounds.marks.items c.as_slice.result.now c.in-Some.to c.as_slice.ensures.value
    (omega (arith, led, c.rounds.invariant.long)) c.in-Some.ensures.some.0

pub rounds-preserved : goal.rounds-preserved
rounds-preserved c =
    let all = c.args.all.now in
    more_spread all c.args.start c.in-Some.to c.rounds.marks.items c.rounds.invariant
    (subst (λ ms. IsLedTo all ms c.in-Some.to) c.as_slice.ensures.value c.in-Some.ensures.some.1)

pub returns : goal.returns
returns c =
    let all = c.args.all.now in
    all_reached all c.args.start c.rounds.marks.items c.rounds.invariant
    (subst (λ ms. AreClosed all ms) c.as_slice.ensures.value c.in_default.ensures.none)
