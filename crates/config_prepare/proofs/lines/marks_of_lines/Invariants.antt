use Rattle.std.proofs.Common.{◌≡◌, ◌++◌, drop}
use Rattle.config_prepare.specs.Places.{at_start, left_out_from}
use Rattle.config_prepare.proofs.lines.marks_of_lines.Given as goal

-- the marks so far, and the lines that are left
abbrev pub invariant-loop-line : goal.invariant-loop-line
invariant-loop-line l =
    l.marks-inside.items.items ++ left_out_from l.place (drop l.line-index l.lines) ≡ left_out_from at_start l.lines
