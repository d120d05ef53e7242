use Rattle.std.proofs.Common.{◌≡◌, ℕ, Bool, true, false, List, sym, ap, subst, ◌∙◌}
use Rattle.std.proofs.lemmas.Bool.{not-false, not-true}
use Rattle.question_lang.specs.declared.walk.Hop.{Hop}
use Rattle.walk_def.proofs.Arrivals.{no_arrival, some_arrives}
use Rattle.walk_def.specs.Arriving.{AreArriving, AreLanding, AreShut}
use Rattle.walk_def.specs.Marks.{known}
use Rattle.walk_def.proofs.arriving.none_arrives.Goals as goal

pub returns-clause-yes : goal.returns-clause-yes
returns-clause-yes c none =
    let files = c.args.net.now.files in
    let world = c.args.world.now in
    let target = c.args.target.now in
    let marks = c.arriving_from-marks.result.items in
    let L : List (List Hop) → Type 0 = λ all. AreLanding files world target all c.in_ok-landing.landing.items in
    let K : List Bool → Type 0 = λ first. (router : ℕ) → known first router ≡ true → known marks router ≡ true in
    let S : List (List Hop) → Type 0 = λ all. AreShut all marks in
    let unmarked : known marks c.args.start ≡ false =
    ap (λ xs. known xs c.args.start) (sym c.as_slice-4.ensures.value) ∙ sym c.is_known.ensures
    ∙ not-true c.is_known.result none in
    no_arrival files world target c.in_ok-hops.hops c.in_ok-landing.landing.items marks c.args.start
    c.in_ok-hops.ensures.len
    c.in_ok-hops.ensures.sent (subst L c.as_slice.ensures c.in_ok-landing.ensures.landing)
    (subst K c.as_slice-3.ensures.value c.arriving_from-marks.ensures.kept)
    (subst S c.as_slice-2.ensures c.arriving_from-marks.ensures.shut)
    unmarked

pub returns-clause-no : goal.returns-clause-no
returns-clause-no c some =
    let files = c.args.net.now.files in
    let world = c.args.world.now in
    let target = c.args.target.now in
    let marks = c.arriving_from-marks.result.items in
    let L : List (List Hop) → Type 0 = λ all. AreLanding files world target all c.in_ok-landing.landing.items in
    let A : List (List Hop) → Type 0 = λ all. AreArriving all c.as_slice-3.result.now marks in
    let B : List Bool → Type 0 = λ first. AreArriving c.in_ok-hops.hops first marks in
    let marked : known marks c.args.start ≡ true =
    ap (λ xs. known xs c.args.start) (sym c.as_slice-4.ensures.value) ∙ sym c.is_known.ensures
    ∙ not-false c.is_known.result some in
    some_arrives files world target c.in_ok-hops.hops c.in_ok-landing.landing.items marks c.args.start
    c.in_ok-hops.ensures.sent (subst L c.as_slice.ensures c.in_ok-landing.ensures.landing)
    (subst B c.as_slice-3.ensures.value (subst A c.as_slice-2.ensures c.arriving_from-marks.ensures.sound))
    marked
