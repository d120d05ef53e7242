use Rattle.std.proofs.Common.{◌≡◌, ◌+◌, ◌&&◌, List, Bool, true, arith, drop, get_or, length, rules, subst, sym, ap, ◌∙◌}
use Rattle.std.specs.List.{list_all}
use Rattle.std.proofs.Math.Bool.{and_assoc, and-true}
use Rattle.plan_places.specs.declared.places.Place.{Place}
use Rattle.plan_places.specs.Places.{has_place}
use Rattle.world_variables.specs.Worlds.{places_in}
use Rattle.routing_worlds.specs.Worlds.{shape_world_from}
use Rattle.term_store.specs.Terms.{at as value_at}
use Rattle.routing_encoder.specs.Decided.{is_heard_place}
use Rattle.routing_encoder.proofs.DecidedSteps.{decided_next, decided_none, place_has}
use Rattle.routing_encoder.proofs.HeardSteps.{heard_frame}
use Rattle.routing_encoder.proofs.OpeningSteps.{places_are}
use Rattle.routing_encoder.proofs.WorldSteps.{stands_grown}
use Rattle.routing_encoder.proofs.decided.sym_all_decided.Goals as goal

pub sym_decided-requires-clause-place : goal.sym_decided-requires-clause-place
sym_decided-requires-clause-place c =
    let made = c.args.made.now.routing in
    let at = c.loop-at.at in
    let d : Place = record { router = 0; len = 0 } in
    let is = c.as_slice-places.ensures in
    let long = ap length is in
    let below = c.loop-at-test.true in
    subst (λ (ps : List Place). has_place (places_in c.args.net.now.files c.args.plan.now) (get_or ps at d).router
    (get_or ps at d).len ≡ true) (sym is) (place_has c.args.net.now.files c.args.net.now.tracked c.args.question.now
    c.args.plan.now c.loop-at.terms made at d c.loop-at.invariant.stands (omega (arith, below, long))).1

pub loop-at-preserved : goal.loop-at-preserved
loop-at-preserved c = record {
  builds = search rules;
  stands =
      let first = c.sym_decided.ensures.builds.larger in
      let second = c.both.ensures.builds.larger in
      stands_grown c.args.net.now.files c.args.net.now.tracked c.args.question.now c.args.plan.now c.loop-at.terms
      c.both.new.terms c.args.made.now.routing c.loop-at.invariant.stands (omega (arith, first, second));
  within = c.in_ok-all-2.ensures.within;
  value = λ w reads from read shapes distances.
      let r1 = c.both.ensures.builds.reads w reads in
      let r0 = c.sym_decided.ensures.builds.reads w r1 in
      let files = c.args.net.now.files in
      let tracked = c.args.net.now.tracked in
      let question = c.args.question.now in
      let plan = c.args.plan.now in
      let at = c.loop-at.at in
      let past = at + 1 in
      let test : Place → Bool = is_heard_place tracked files question.packets.dst
      (shape_world_from files tracked question plan w.variable from) in
      let is = c.as_slice-places.ensures in
      let places = c.as_slice-places.result.now in
      let rest = list_all test (drop past places) in
      let all = value_at w c.loop-at.all in
      ap (λ (ps : List Place). value_at w c.in_ok-all-2.all && list_all test (drop past ps)) (sym is)
      ∙ ap (λ b. b && rest) (c.in_ok-all-2.ensures.value w reads)
      ∙ and_assoc all (value_at w c.in_ok-holds.holds) rest
      ∙ ap (λ b. all && (b && rest)) (c.in_ok-holds.ensures.value w r1 from read shapes distances)
      ∙ ap (λ b. all && b) (sym (decided_next test places at (record { router = 0; len = 0 }) c.loop-at-test.true))
      ∙ ap (λ (ps : List Place). all && list_all test (drop at ps)) is
      ∙ c.loop-at.invariant.value w r0 from read shapes distances;
}

pub returns-clause-value : goal.returns-clause-value
returns-clause-value c = λ w reads from read shapes distances.
    let test : Place → Bool = is_heard_place c.args.net.now.tracked c.args.net.now.files c.args.question.now.packets.dst
    (shape_world_from c.args.net.now.files c.args.net.now.tracked c.args.question.now c.args.plan.now w.variable from) in
    let long = ap length c.as_slice-places.ensures in
    let end = c.loop-at-test.false in
    sym (and-true (value_at w c.loop-at.all))
    ∙ ap (λ b. value_at w c.loop-at.all && b) (sym (decided_none test c.args.made.now.routing.frame.places c.loop-at.at
    (omega (arith, end, long))))
    ∙ c.loop-at.invariant.value w reads from read shapes distances
    ∙ heard_frame c.args.net.now.tracked c.args.net.now.files c.args.question.now c.args.plan.now w.variable from
    c.args.made.now.routing.frame.places (places_are c.args.net.now.files c.args.net.now.tracked c.args.plan.now
    c.args.made.now.routing.frame c.requires.stands.frame)
