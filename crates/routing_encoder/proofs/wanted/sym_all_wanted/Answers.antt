use Rattle.std.proofs.Common.{◌≡◌, true, sym, ◌∙◌}
use Rattle.term_store.specs.Terms.{at}
use Rattle.ospf_equations.proofs.HoldingSteps.{gives_more}
use Rattle.ospf_equations.proofs.LevelSteps.{implied}
use Rattle.routing_encoder.proofs.wanted.sym_all_wanted.Goals as goal

pub returns-clause-value : goal.returns-clause-value
returns-clause-value c =
    gives_more c.both.new.terms c.both.result _ _
    (λ w r reads is from real read shapes has.
    let r1 = c.both.ensures.builds.reads w reads in
    let wanted = c.in_ok-all.ensures.value w (c.sym_all_following.ensures.builds.reads w r1) from real read shapes has in
    let follows : at w c.in_ok-all.all ≡ true → at w c.in_ok-following.following ≡ true =
    λ all. c.in_ok-following.ensures.value w r1 from real read shapes has (sym wanted ∙ all) in
    is ∙ implied (at w c.in_ok-all.all) (at w c.in_ok-following.following) follows ∙ wanted)
    c.both.ensures.value
