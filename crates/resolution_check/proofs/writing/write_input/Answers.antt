use Rattle.std.proofs.Common.{◌∙◌, ap, ◌++◌, map}
use Rattle.std.specs.List.{flat_map}
use Rattle.std.specs.String.{string_bytes}
use Rattle.std.specs.Fmt.{decimal}
use Rattle.std.proofs.lemmas.Result.{on_ok_weaker}
use Rattle.resolution_check.specs.Text.{lit_text, zero_text, after_space}
use Rattle.resolution_check.proofs.Written.{input_written}
use Rattle.resolution_check.proofs.writing.write_input.Goals as goal

pub returns : goal.returns
returns c =
    let old = string_bytes c.args.out.now in
    let id = c.args.id in
    let head =
    c.in_ok-write_number.ensures ∙ ap (λ s. s ++ after_space (decimal id)) c.in_ok-push_str.ensures.bytes in
    on_ok_weaker c.write_lits.result (λ e. e
    ∙ ap (λ s. (s ++ flat_map after_space (map lit_text c.args.lits.now)) ++ after_space zero_text) head
    ∙ input_written old id (record { lits = c.args.lits.now })) c.write_lits.ensures
