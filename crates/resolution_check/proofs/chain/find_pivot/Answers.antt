use Rattle.std.proofs.Common.{sym, ◌∙◌, ap, false}
use Rattle.std.proofs.lemmas.List.{take_all}
use Rattle.std.proofs.lemmas.Bool.{not-true}
use Rattle.resolution_check.specs.Clauses.{the_one}
use Rattle.resolution_check.proofs.Pivots.{met, the_one-met, found_one, two_found, met-later, met-at}
use Rattle.resolution_check.proofs.chain.find_pivot.Goals as goal

pub returns-then-ne : goal.returns-then-ne
returns-then-ne c = λ r shows.
    let m = c.args.marks.now in
    let d = c.args.clause.now in
    let pivot = c.in-Some.pivot in
    let one = rw c.in-Some.is at c.loop-lit.invariant in
    two_found (met m d) pivot c.opposite-met.result
    (met-later m d c.loop-lit.lit-index pivot one.there)
    (met-at m d c.loop-lit.lit-index
    (record { var = 0; negated = false }) c.opposite-met.result c.loop-lit-test.true c.opposite-met.ensures
    (sym c.if-has.ensures))
    (not-true _ (sym c.if-ne.ensures))
    ∙ the_one-met m r d shows

pub returns : goal.returns
returns c = λ r shows.
    found_one _ _ c.loop-lit.invariant
    ∙ ap (λ d. the_one (met c.args.marks.now d)) (take_all c.loop-lit.lit-index c.args.clause.now c.loop-lit-test.false)
    ∙ the_one-met c.args.marks.now r c.args.clause.now shows
