use Rattle.std.proofs.Common.{◌≡◌, ◌++◌, take}
use Rattle.resolution_check.specs.Text.{log_text}
use Rattle.trimmed_logs.proofs.texts.push_lines.Given as goal

-- the lines so far
abbrev pub invariant-loop-entry : goal.invariant-loop-entry
invariant-loop-entry l = l.text.items ≡ l.fn.text.items ++ log_text (take l.entry-index l.entries)
