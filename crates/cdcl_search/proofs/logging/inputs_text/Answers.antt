use Rattle.std.proofs.Common.{rules, ◌≡◌, ◌∙◌, ◌+◌, ◌++◌, Some, slice_get, ap, sym}
use Rattle.std.specs.String.{string_bytes}
use Rattle.std.proofs.lemmas.Option.{slice_get_read}
use Rattle.resolution_check.specs.Clauses.{is_below}
use Rattle.resolution_check.specs.declared.log.Clause.{Clause}
use Rattle.resolution_check.specs.declared.log.Entry.TheVariants.{Input}
use Rattle.resolution_check.specs.Text.{line_of}
use Rattle.mw_text.proofs.Lists.{all_at}
use Rattle.cdcl_search.proofs.Logs.{below_each, text_next}
use Rattle.cdcl_search.proofs.logging.inputs_text.Goals as goal

pub put_input-requires : goal.put_input-requires
put_input-requires c =
    let there : slice_get c.args.clauses.now c.loop-at.at ≡ Some c.index-clauses-at.result =
    slice_get_read c.args.clauses.now _ c.loop-at.at c.index-clauses-at.result
    (search rules) c.loop-at-test.true c.index-clauses-at.is in
    rw (c.as_slice.ensures)
    (below_each _ c.index-clauses-at.result.lits
    (all_at (λ (k : Clause). is_below _ k.lits) c.args.clauses.now c.loop-at.at c.index-clauses-at.result
    c.requires.small there))

pub loop-at-preserved : goal.loop-at-preserved
loop-at-preserved c =
    let there : slice_get c.args.clauses.now c.loop-at.at ≡ Some c.index-clauses-at.result =
    slice_get_read c.args.clauses.now _ c.loop-at.at c.index-clauses-at.result
    (search rules) c.loop-at-test.true c.index-clauses-at.is in
    c.in_ok-put_input.ensures
    ∙ ap (λ lits. string_bytes c.loop-at.text ++ line_of (Input (c.args.first + c.loop-at.at) (record { lits = lits })))
    c.as_slice.ensures
    ∙ ap (λ s. s ++ line_of (Input (c.args.first + c.loop-at.at) c.index-clauses-at.result)) c.loop-at.invariant
    ∙ sym (text_next c.args.first c.args.clauses.now c.loop-at.at c.index-clauses-at.result there)
