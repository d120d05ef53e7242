use Rattle.std.proofs.Common.{◌≡◌, ◌∙◌, ◌^◌, ◌≤◌, ap, sym, subst, length, arith, List}
use Rattle.std.specs.List.{AllByRecursion}
use Rattle.resolution_check.specs.declared.log.Entry.{Entry}
use Rattle.resolution_check.specs.Text.{HasText}
use Rattle.trimmed_logs.specs.Trimmed.{IsTrimmed}
use Rattle.trimmed_logs.proofs.Written.{trimmed_texts}
use Rattle.trimmed_logs.proofs.texts.push_trimmed.Goals as goal

pub push_lines-requires : goal.push_lines-requires
push_lines-requires c =
    let t = c.in_ok-trimmed.trimmed in
    let given : c.as_slice.result.now ≡ _ = c.as_slice.ensures.value ∙ c.in_ok-push.ensures.items in
    let T : List Entry → Type 0 = λ es. IsTrimmed es t in
    let H : List Entry → Type 0 = λ es. AllByRecursion HasText es in
    let small = c.trimmed.inside.items.small in
    let count = c.trimmed.inside.items.ok.0 in
    let long : length c.trimmed.inside.items.items ≡ length t = ap length c.trimmed.view_is in
    let fits : length t ≤ 2 ^ 63 = omega (arith, small, count, long) in
    subst H (sym c.as_slice-2.ensures)
    (trimmed_texts c.args.entries.now.items t c.requires.texts (subst T given c.in_ok-trimmed.ensures.trimmed)
    c.in_ok-trimmed.ensures.refutes.0 fits)
