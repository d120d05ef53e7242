use Rattle.std.proofs.Common.{◌∙◌, ap, not}
use Rattle.std.specs.List.{list_any}
use Rattle.std.proofs.lemmas.Result.{IfOk-weaker}
use Rattle.term_store.specs.Terms.{at}
use Rattle.sym_bgp.proofs.HeldSteps.{survives_law}
use Rattle.sym_bgp.proofs.survives.sym_survives.Goals as goal

pub returns-clause-value : goal.returns-clause-value
returns-clause-value c =
    IfOk-weaker c.select.result _ _ (λ r chosen w reads.
    let none = c.in_ok-none.ensures in
    let survives = c.in_ok-survives.ensures in
    let before = c.select.ensures.builds.reads w reads in
    chosen w reads
    ∙ survives_law w c.args.always_compare c.args.compare_id c.args.cands.now c.args.held.now
    c.in_ok-there.there.nodes.items (at w c.in_ok-none.none) (at w c.in_ok-survives.survives)
    c.in_ok-there.ensures.value
    (none.value w (survives.builds.reads w before) ∙ ap (λ ids. not (list_any (at w) ids)) c.as_slice.ensures.value)
    (survives.value w before)) c.select.ensures.value
