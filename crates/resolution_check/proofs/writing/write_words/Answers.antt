use Rattle.std.proofs.Common.{sym, ◌∙◌, ap, ◌++◌, map, codes}
use Rattle.std.specs.List.{flat_map}
use Rattle.std.specs.String.{string_bytes}
use Rattle.std.specs.Fmt.{decimal}
use Rattle.std.proofs.lemmas.Result.{on_ok_weaker}
use Rattle.resolution_check.specs.Text.{lit_text, zero_text, text_of, after_space}
use Rattle.resolution_check.proofs.Written.{addition_written}
use Rattle.resolution_check.proofs.writing.write_words.Goals as goal

pub returns-in_ok-write_lits-in-Add : goal.returns-in_ok-write_lits-in-Add
returns-in_ok-write_lits-in-Add c =
    let old = string_bytes c.args.out.now in
    let id = c.in-Add.id in
    let head =
    c.in_ok-write_number-in-Add.ensures
    ∙ ap (λ s. s ++ after_space (decimal id)) c.in_ok-push_str-in-Add.ensures.bytes in
    let lits = c.in_ok-write_lits-in-Add.ensures
    ∙ ap (λ s. (s ++ flat_map after_space (map lit_text c.as_slice-in-Add.result.now)) ++ after_space zero_text) head
    ∙ ap (λ d. (((old ++ codes "a") ++ after_space (decimal id)) ++ flat_map after_space (map lit_text d))
    ++ after_space zero_text) c.as_slice-in-Add.ensures in
    on_ok_weaker c.write_chain.result (λ e. e
    ∙ ap (λ s. (s ++ flat_map after_space (map decimal c.as_slice-in-Add-2.result.now)) ++ after_space zero_text) lits
    ∙ ap (λ d. (((((old ++ codes "a") ++ after_space (decimal id))
    ++ flat_map after_space (map lit_text c.in-Add.clause.lits)) ++ after_space zero_text)
    ++ flat_map after_space (map decimal d)) ++ after_space zero_text) c.as_slice-in-Add-2.ensures
    ∙ addition_written old id c.in-Add.clause c.in-Add.chain
    ∙ ap (λ d. old ++ text_of d) (sym c.in-Add.is)) c.write_chain.ensures
