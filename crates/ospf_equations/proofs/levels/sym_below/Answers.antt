use Rattle.std.proofs.Common.{◌≡◌, Bool, ap, ap₂, sym, ◌∙◌, ◌||◌, not, ◌++◌}
use Rattle.std.specs.List.{filter_map, list_any}
use Rattle.std.proofs.lemmas.List.Folds.{list_any-append}
use Rattle.term_store.specs.Terms.{at}
use Rattle.sym_policy.specs.Held.{ospf_of}
use Rattle.ospf_equations.specs.Adjacent.{offers_read}
use Rattle.ospf_equations.specs.Levels.{is_within, of_length}
use Rattle.ospf_equations.proofs.LevelSteps.{either_so, level_is}
use Rattle.ospf_equations.proofs.levels.sym_below.Goals as goal

pub returns-clause-value : goal.returns-clause-value
returns-clause-value c = λ w reads tracked real stand best.
    let r3 = c.implies.ensures.builds.reads w reads in
    let r2 = c.either.ensures.builds.reads w r3 in
    let r1 = c.sym_some_near.ensures.builds.reads w r2 in
    let r0 = c.sym_some_within.ensures.builds.reads w r1 in
    let most = c.args.most in
    let level = c.args.c.now in
    let routes = filter_map (ospf_of w) level.own.now in
    let offers = offers_read w real (of_length level.len) level.over.now in
    let here = at w c.in_ok-here.here in
    let own = c.in_ok-own.ensures.value w r1 in
    let some = c.in_ok-some.ensures.value w r3 ∙ ap (λ b. b || at w c.in_ok-near.near) own in
    let is : here ≡ (list_any (is_within most) routes || list_any (is_within most) offers) =
    c.in_ok-here.ensures.value w r0 ∙ level_is most (ospf_of w level.held.now) (routes ++ offers) best
    ∙ list_any-append (is_within most) routes offers in
    c.in_ok-level.ensures.value w reads ∙ ap (λ b. not here || b) some
    ∙ either_so here (list_any (is_within most) routes) (list_any (is_within most) offers) (at w c.in_ok-near.near) is
    (c.in_ok-near.ensures.value w r2 tracked real stand)
