use Rattle.std.proofs.Common.{◌≤◌, arith, length, rules, sym, ap, subst, ◌∙◌}
use Rattle.term_arith.specs.Bits.{ids_end}
use Rattle.term_store.specs.Terms.{size}
use Rattle.ospf_equations.specs.Reached.{TellReached}
use Rattle.ospf_equations.proofs.ReachedSteps.{first_reached, step_reached}
use Rattle.ospf_equations.proofs.reached.sym_steps.Goals as goal

pub loop-step-init : goal.loop-step-init
loop-step-init c = record {
  builds = search rules;
  within = subst (λ xs. ids_end xs ≤ size c.args.terms.now) (sym c.in_ok-nodes.ensures.items) c.requires.origins;
  long = ap length c.in_ok-nodes.ensures.items ∙ c.requires.long;
  value = λ w reads files failures real p many ups origins.
      subst (TellReached w files failures real p 0) (sym c.in_ok-nodes.ensures.items)
      (first_reached w files failures real p c.args.origins.now origins);
}

pub loop-step-preserved : goal.loop-step-preserved
loop-step-preserved c = record {
  builds = search rules;
  within = c.in_ok-made.ensures.within;
  long = c.in_ok-made.ensures.long;
  value = λ w reads files failures real p many ups origins.
      let r0 = c.sym_step.ensures.builds.reads w reads in
      step_reached w files failures real p c.loop-step.step c.args.over.now c.args.origins.now c.as_slice.result.now
      c.in_ok-made.made ups origins
      (ap length c.as_slice.ensures ∙ c.loop-step.invariant.long ∙ sym many)
      (subst (TellReached w files failures real p c.loop-step.step) (sym c.as_slice.ensures)
      (c.loop-step.invariant.value w r0 files failures real p many ups origins))
      (λ router below. c.in_ok-made.ensures.value w reads router (omega (arith, below, many)));
}
