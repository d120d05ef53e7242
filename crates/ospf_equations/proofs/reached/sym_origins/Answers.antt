use Rattle.std.proofs.Common.{ℕ, Bool, arith, rules, ap, ◌∙◌}
use Rattle.sym_policy.specs.Held.{failures_of}
use Rattle.sym_policy.specs.Records.{prefix_of}
use Rattle.ospf_equations.specs.Reached.{is_origin, told}
use Rattle.ospf_equations.proofs.ReachedSteps.{node_steps, told_push}
use Rattle.ospf_equations.proofs.reached.sym_origins.Goals as goal

pub loop-router-preserved : goal.loop-router-preserved
loop-router-preserved c = record {
  builds = search rules;
  within =
      let put = c.in_ok-put.ensures in
      let larger = c.sym_origin.ensures.builds.larger in
      let node = c.in_ok-node.ensures.within in
      let before = c.loop-router.invariant.within in
      grind (arith, node_steps, put, larger, node, before);
  long =
      let put = c.in_ok-put.ensures in
      let long = c.loop-router.invariant.long in
      grind (arith, node_steps, put, long);
  value = λ w reads real stand router below.
      let place = c.args.place.now in
      let f : ℕ → Bool = is_origin place.net.now.files (failures_of w place.sym.now) real
      (prefix_of w place.dst.now place.len) in
      let r0 = c.sym_origin.ensures.builds.reads w reads in
      ap (λ xs. told w xs router) c.in_ok-put.ensures
      ∙ told_push w c.loop-router.made c.in_ok-node.node f c.loop-router.router c.loop-router.invariant.long
      (c.loop-router.invariant.value w r0 real stand) (c.in_ok-node.ensures.value w reads real stand) router below;
}
