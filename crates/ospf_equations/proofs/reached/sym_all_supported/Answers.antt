use Rattle.std.proofs.Common.{◌≡◌, ℕ, ◌&&◌, ◌||◌, Bool, not, arith, rules, sym, ap, ap₂, ◌∙◌}
use Rattle.mw_text.specs.Members.{all_below}
use Rattle.sym_ospf.proofs.EquationTests.{all_more}
use Rattle.ospf_equations.specs.Levels.{of_length}
use Rattle.ospf_equations.specs.Reached.{holds_internal, told}
use Rattle.ospf_equations.proofs.reached.sym_all_supported.Goals as goal

pub loop-router-preserved : goal.loop-router-preserved
loop-router-preserved c = record {
  builds = search rules;
  within = search rules;
  value = λ w reads tracked real stand.
      let r1 = c.both.ensures.builds.reads w reads in
      let r0 = c.sym_supported.ensures.builds.reads w r1 in
      let f : ℕ → Bool = λ router. not (holds_internal real (of_length c.args.len) router)
      || told w c.args.reached.now router in
      c.in_ok-all-2.ensures.value w reads
      ∙ ap₂ (λ a b. a && b) (c.loop-router.invariant.value w r0 tracked real stand)
      (c.in_ok-here.ensures.value w r1 tracked real stand)
      ∙ sym (all_more f c.loop-router.router);
}

pub returns-clause-value : goal.returns-clause-value
returns-clause-value c = λ w reads tracked real stand.
    let f : ℕ → Bool = λ router. not (holds_internal real (of_length c.args.len) router)
    || told w c.args.reached.now router in
    let end = c.loop-router-test.false in
    let last = c.loop-router.auto.router-end in
    let same : c.loop-router.router ≡ c.args.tables.now.routers = omega (arith, end, last) in
    c.loop-router.invariant.value w reads tracked real stand ∙ ap (all_below f) same
