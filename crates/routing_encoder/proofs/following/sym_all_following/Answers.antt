use Rattle.std.proofs.Common.{◌&&◌, arith, rules, ap₂, ◌∙◌}
use Rattle.routing_encoder.proofs.WorldSteps.{stands_grown}
use Rattle.routing_encoder.proofs.following.sym_all_following.Goals as goal

pub loop-len-preserved : goal.loop-len-preserved
loop-len-preserved c = record {
  builds = search rules;
  stands =
      let world = c.args.world.now in
      let first = c.sym_follows_at.ensures.builds.larger in
      let second = c.both.ensures.builds.larger in
      stands_grown world.net.now.files world.net.now.tracked world.question.now world.plan.now c.loop-len.terms
      c.both.new.terms world.made.now.routing c.loop-len.invariant.stands (omega (arith, first, second));
  within = c.in_ok-all-2.ensures.within;
  value = λ w reads from real read shapes has all.
      let r1 = c.both.ensures.builds.reads w reads in
      let r0 = c.sym_follows_at.ensures.builds.reads w r1 in
      c.in_ok-all-2.ensures.value w reads
      ∙ ap₂ (λ a b. a && b) (c.loop-len.invariant.value w r0 from real read shapes has all)
      (c.in_ok-here.ensures.value w r1 from real read shapes has all);
}
