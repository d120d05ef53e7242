use Rattle.std.proofs.Common.{◌≡◌, take}
use Rattle.config_lint.specs.Linted.{lines_text}
use Rattle.config_lint.proofs.groups.lines_text.Given as goal

-- the lines so far
abbrev pub invariant-loop-entry : goal.invariant-loop-entry
invariant-loop-entry l = l.text-inside.items.items ≡ lines_text (take l.entry-index l.entries) l.label
