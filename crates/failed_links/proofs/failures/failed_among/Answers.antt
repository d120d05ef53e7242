use Rattle.std.proofs.Common.{◌∙◌, ◌++◌, ◌∷◌, [], ap}
use Rattle.std.specs.Prelude.{if◌then◌else◌}
use Rattle.sym_policy.specs.Held.{positions}
use Rattle.term_store.specs.Terms.{truth}
use Rattle.failed_links.specs.Rows.{row}
use Rattle.failed_links.proofs.ValueSteps.{failed_more}
use Rattle.failed_links.proofs.failures.failed_among.Goals as goal

pub loop-link-preserved : goal.loop-link-preserved
loop-link-preserved c =
    let v = truth c.args.values.now in
    let link = c.loop-link.link in
    c.in_ok-put_failed.ensures
    ∙ ap (λ xs. xs ++ (if c.value_at-down.result then link ∷ [] else [])) c.loop-link.invariant
    ∙ ap (λ b. positions 0 (row v c.args.from link) ++ (if b then link ∷ [] else [])) c.value_at-down.ensures
    ∙ failed_more v c.args.from link
