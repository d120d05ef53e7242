use Rattle.std.proofs.Common.{◌<◌, ◌||◌, ℕ, Bool, arith, length, rules, sym, ap, ◌∙◌}
use Rattle.std.specs.List.{list_any}
use Rattle.ospf_equations.specs.Reached.{is_led, told}
use Rattle.ospf_equations.proofs.ReachedSteps.{node_steps, told_at, told_push}
use Rattle.ospf_equations.proofs.reached.sym_step.Goals as goal

pub loop-router-preserved : goal.loop-router-preserved
loop-router-preserved c = record {
  builds = search rules;
  within =
      let put = c.in_ok-put.ensures in
      let larger = c.sym_led.ensures.builds.larger in
      let node = c.in_ok-node.ensures.within in
      let before = c.loop-router.invariant.within in
      grind (arith, node_steps, put, larger, node, before);
  long =
      let put = c.in_ok-put.ensures in
      let long = c.loop-router.invariant.long in
      grind (arith, node_steps, put, long);
  value = λ w reads router below.
      let origins = c.args.origins.now in
      let f : ℕ → Bool = λ i. told w origins i || list_any (is_led w c.args.reached.now i) c.args.over.now in
      let at_router = c.loop-router.router in
      let next = c.loop-router-test.true in
      let long = c.requires.long in
      let inside : at_router < length origins = omega (arith, next, long) in
      let r0 = c.sym_led.ensures.builds.reads w reads in
      ap (λ xs. told w xs router) c.in_ok-put.ensures
      ∙ told_push w c.loop-router.made c.in_ok-node.node f at_router c.loop-router.invariant.long
      (c.loop-router.invariant.value w r0)
      (c.in_ok-node.ensures.value w reads
      ∙ ap (λ b. b || list_any (is_led w c.args.reached.now at_router) c.args.over.now)
      (sym (told_at w origins at_router _ inside))) router below;
}
