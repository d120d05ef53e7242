use Rattle.std.proofs.Common.{◌∙◌, ap, sym, ◌∷◌, ◌++◌, [], take}
use Rattle.std.proofs.lemmas.List.{take_more}
use Rattle.std.proofs.lemmas.List.Elements.{filter-append}
use Rattle.trimmed_logs.specs.Trimmed.{input_entries, is_input}
use Rattle.trimmed_logs.proofs.trimming.copied_inputs.Goals as goal

pub loop-entry-preserved : goal.loop-entry-preserved
loop-entry-preserved c =
    let es = c.args.entries.now in
    let i = c.loop-entry.entry-index in
    let e = c.entry-item.result in
    c.in_ok-push_input.ensures ∙ ap (λ xs. xs ++ input_entries (e ∷ [])) c.loop-entry.invariant
    ∙ ap (λ x. input_entries (take i es) ++ input_entries (x ∷ [])) c.entry-item.is
    ∙ sym (ap input_entries (take_more es i e c.loop-entry-test.true) ∙ filter-append is_input (take i es) _)
