use Rattle.std.proofs.Common.{◌+◌, ◌<◌, ◌&&◌, Bool, None, false, arith, drop, get_or, length, rules, sym, ap, ◌∙◌}
use Rattle.std.proofs.Math.Bool.{and_assoc, and-true}
use Rattle.std.proofs.lemmas.Option.{slice_get-get_or}
use Rattle.plan_places.specs.declared.places.Place.{Place}
use Rattle.plan_places.specs.Tables.{all_hold}
use Rattle.bgp_worlds.specs.Opens.{OpenSlot}
use Rattle.routing_worlds.specs.Worlds.{opens_from, shape_world_from}
use Rattle.term_store.specs.Terms.{at as value_at}
use Rattle.routing_encoder.specs.Wanted.{is_wanted_place}
use Rattle.routing_encoder.proofs.WantedSteps.{opens_many, wanted_next, wanted_none}
use Rattle.routing_encoder.proofs.WorldSteps.{stands_grown}
use Rattle.routing_encoder.proofs.wanted.sym_each_wanted.Goals as goal

pub loop-at-preserved : goal.loop-at-preserved
loop-at-preserved c = record {
  builds = search rules;
  stands =
      let world = c.args.world.now in
      let first = c.sym_wanted.ensures.builds.larger in
      let second = c.both.ensures.builds.larger in
      stands_grown world.net.now.files world.net.now.tracked world.question.now world.plan.now c.loop-at.terms
      c.both.new.terms world.made.now.routing c.loop-at.invariant.stands (omega (arith, first, second));
  within = c.in_ok-all-2.ensures.within;
  value = λ w reads from real read shapes has.
      let world = c.args.world.now in
      let r1 = c.both.ensures.builds.reads w reads in
      let r0 = c.sym_wanted.ensures.builds.reads w r1 in
      let files = world.net.now.files in
      let tracked = world.net.now.tracked in
      let question = world.question.now in
      let plan = world.plan.now in
      let made = world.made.now.routing in
      let at = c.loop-at.at in
      let past = at + 1 in
      let test : Place → OpenSlot → Bool = is_wanted_place files question.packets.dst
      (shape_world_from files tracked question plan w.variable from) real in
      let places = made.frame.places in
      let opens = opens_from files tracked question plan w.variable from in
      let d : Place = record { router = 0; len = 0 } in
      let e : OpenSlot = record { unknown = record { ospf = None; dynamic = false }; bgp = None } in
      let long = ap length c.as_slice-places.ensures in
      let many = opens_many w files tracked question plan from c.loop-at.terms made c.loop-at.invariant.stands read in
      let next = c.loop-at-test.true in
      let below : at < length places = omega (arith, next, long) in
      let within : at < length opens = omega (arith, below, many) in
      let rest = all_hold test (drop past places) (drop past opens) in
      let all = value_at w c.loop-at.all in
      ap (λ b. b && rest) (c.in_ok-all-2.ensures.value w reads)
      ∙ and_assoc all (value_at w c.in_ok-holds.holds) rest
      ∙ ap (λ b. all && (b && rest)) (c.in_ok-holds.ensures.value w r1 from real (get_or places at d) (get_or opens at e)
      read shapes has (slice_get-get_or places at d below) (slice_get-get_or opens at e within))
      ∙ ap (λ b. all && b) (sym (wanted_next test places opens at d e below within))
      ∙ c.loop-at.invariant.value w r0 from real read shapes has;
}

pub returns-clause-value : goal.returns-clause-value
returns-clause-value c = λ w reads from real read shapes has.
    let world = c.args.world.now in
    let files = world.net.now.files in
    let tracked = world.net.now.tracked in
    let question = world.question.now in
    let plan = world.plan.now in
    let made = world.made.now.routing in
    let at = c.loop-at.at in
    let opens = opens_from files tracked question plan w.variable from in
    let test : Place → OpenSlot → Bool = is_wanted_place files question.packets.dst
    (shape_world_from files tracked question plan w.variable from) real in
    let long = ap length c.as_slice-places.ensures in
    let many = opens_many w files tracked question plan from c.loop-at.terms made c.loop-at.invariant.stands read in
    let end = c.loop-at-test.false in
    sym (and-true (value_at w c.loop-at.all))
    ∙ ap (λ b. value_at w c.loop-at.all && b) (sym (wanted_none test made.frame.places opens at
    (omega (arith, end, long)) (omega (arith, end, long, many))))
    ∙ c.loop-at.invariant.value w reads from real read shapes has
