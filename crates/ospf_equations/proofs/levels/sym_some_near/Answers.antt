use Rattle.std.proofs.Common.{◌+◌, ◌||◌, rules, arith, drop, ap, ◌∙◌}
use Rattle.std.specs.List.{list_any}
use Rattle.term_store.specs.Terms.{at}
use Rattle.ospf_equations.specs.Adjacent.{offers_read}
use Rattle.ospf_equations.specs.Levels.{is_within, of_length}
use Rattle.ospf_equations.proofs.AdjacentSteps.{near_next, within_steps}
use Rattle.ospf_equations.proofs.levels.sym_some_near.Goals as goal

pub loop-s-preserved : goal.loop-s-preserved
loop-s-preserved c = record {
  builds = search rules;
  within = search rules;
  value = λ w reads tracked real stand is.
      let before = c.either.ensures.builds.reads w reads in
      let p = of_length c.args.c.now.len in
      let most = c.args.most in
      let over = c.args.c.now.over.now in
      let i = c.loop-s.s-index in
      let any = at w c.loop-s.any in
      let here = at w c.in_ok-here.here in
      let left = list_any (is_within most) (offers_read w real p (drop (i + 1) over)) in
      let all = c.loop-s.invariant.value w (c.sym_far_within.ensures.builds.reads w before) tracked real stand in
      ap (λ a. a || left) (c.in_ok-any-2.ensures.value w reads)
      ∙ near_next w real p over i _ most c.raised-limit.result any here (omega (arith)) c.raised-limit.ensures
      (c.in_ok-here.ensures.value w before tracked real stand) all is;
}

pub returns-clause-value : goal.returns-clause-value
returns-clause-value c = λ w reads tracked real stand is.
    let all = c.loop-s.invariant.value w reads tracked real stand is in
    grind (arith, within_steps, all)
