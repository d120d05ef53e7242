use Rattle.std.proofs.Common.{◌∙◌, ap, sym, subst, option_map}
use Rattle.std.specs.Prelude.{IfSome}
use Rattle.log_checker.specs.declared.sections.Checked.{Checked}
use Rattle.trimmed_logs.specs.Steps.{IsWrongBehind}
use Rattle.trimmed_logs.proofs.Logged.{section_bad, section_whole, unopened_line, unopened_tail}
use Rattle.trimmed_logs.proofs.answer.trim_section.Goals as goal

pub returns-in_default-clause-wrong : goal.returns-in_default-clause-wrong
returns-in_default-clause-wrong c =
    let P : Checked → Type 0 = λ k. IfSome k.wrong (IsWrongBehind c.args.bytes.now k.lines) in
    subst P (sym c.unopened.ensures)
    (unopened_tail c.args.bytes.now c.requires (c.first_line.ensures.none c.in_default.is))

pub returns-in_default-name_in-clause-wrong : goal.returns-in_default-name_in-clause-wrong
returns-in_default-name_in-clause-wrong c =
    let P : Checked → Type 0 = λ k. IfSome k.wrong (IsWrongBehind c.args.bytes.now k.lines) in
    subst P (sym c.unopened-in_default-name_in.ensures)
    (unopened_line c.args.bytes.now c.in-Some.line.text.now c.in-Some.line.rest.now c.in-Some.ensures.piece
    (sym c.name_in.ensures ∙ ap (option_map (λ name. name.now)) c.in_default-name_in.is))

pub returns-clause-whole : goal.returns-clause-whole
returns-clause-whole c =
    section_whole c.args.bytes.now c.in-Some.line.text.now c.in-Some.line.rest.now c.in-Some-name_in.name.now
    c.args.text.now.items c.trim_read.new.text.items c.in_ok-read.read.entries.items c.in_ok-read.read.lines
    c.in_ok-read.read.used c.in_ok-read.read.wrong c.trim_read.result c.in-Some.ensures.piece c.in-Some.ensures.line
    (sym c.name_in.ensures ∙ ap (option_map (λ name. name.now)) c.in-Some-name_in.is)
    c.in_ok-read.ensures.ends c.trim_read.ensures.lines c.trim_read.ensures.used c.trim_read.ensures.wrong
    c.trim_read.ensures.trimmed

pub returns-clause-wrong : goal.returns-clause-wrong
returns-clause-wrong c =
    section_bad c.args.bytes.now c.in-Some.line.text.now c.in-Some.line.rest.now c.in-Some-name_in.name.now
    c.in_ok-read.read.lines c.in_ok-read.read.wrong c.trim_read.result c.in-Some.ensures.piece
    (sym c.name_in.ensures ∙ ap (option_map (λ name. name.now)) c.in-Some-name_in.is)
    c.in_ok-read.ensures.wrong c.trim_read.ensures.lines c.trim_read.ensures.wrong
