use Rattle.std.proofs.Common.{◌≡◌, ℕ, ◌&&◌, Bool, not, arith, rules, sym, ap, ap₂, ◌∙◌}
use Rattle.sym_ospf.proofs.EquationTests.{all_more}
use Rattle.ospf_equations.specs.Least.{holds_cheaper, least_of, none_cheaper}
use Rattle.ospf_equations.specs.Levels.{of_length}
use Rattle.ospf_equations.proofs.least.sym_all_dear.Goals as goal

pub loop-router-preserved : goal.loop-router-preserved
loop-router-preserved c = record {
  builds = search rules;
  within = search rules;
  value = λ w reads tracked real stand.
      let r1 = c.both.ensures.builds.reads w reads in
      let r0 = c.sym_dear.ensures.builds.reads w r1 in
      let f : ℕ → Bool = λ router. not (holds_cheaper real (of_length c.args.len) (least_of c.args.least.now router) router) in
      c.in_ok-all-2.ensures.value w reads
      ∙ ap₂ (λ a b. a && b) (c.loop-router.invariant.value w r0 tracked real stand)
      (c.in_ok-here.ensures.value w r1 tracked real stand
      ∙ ap (λ n. not (holds_cheaper real (of_length c.args.len) n c.loop-router.router)) c.least_at.ensures)
      ∙ sym (all_more f c.loop-router.router);
}

pub returns-clause-value : goal.returns-clause-value
returns-clause-value c = λ w reads tracked real stand.
    let end = c.loop-router-test.false in
    let last = c.loop-router.auto.router-end in
    let same : c.loop-router.router ≡ c.args.tables.now.routers = omega (arith, end, last) in
    c.loop-router.invariant.value w reads tracked real stand
    ∙ ap (none_cheaper real (of_length c.args.len) c.args.least.now) same
