use Rattle.std.proofs.Common.{arith, sym, ◌∙◌}
use Rattle.term_store.specs.Terms.{at}
use Rattle.sym_policy.specs.Held.{ospf_of}
use Rattle.ospf_equations.proofs.LevelSteps.{implies_true, within_more}
use Rattle.ospf_equations.proofs.levels.sym_wider.Goals as goal

pub returns-clause-value : goal.returns-clause-value
returns-clause-value c = λ w reads.
    let r1 = c.implies.ensures.builds.reads w reads in
    let r0 = c.sym_within-2.ensures.builds.reads w r1 in
    let held = ospf_of w c.args.held.now in
    let less = c.in_ok-less.ensures.value w r0 in
    let more = c.in_ok-more.ensures.value w r1 in
    c.in_ok-step.ensures.value w reads
    ∙ implies_true (at w c.in_ok-less.less) (at w c.in_ok-more.more)
    (λ is. more ∙ within_more c.args.least _ held (omega arith) (sym less ∙ is))
