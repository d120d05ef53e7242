use Rattle.std.proofs.Common.{◌≡◌, ◌++◌, drop, map}
use Rattle.config_prepare.specs.Prepared.{prepared_lines}
use Rattle.config_prepare.proofs.text.text_of.Given as goal

-- the text so far, and the lines that are left
abbrev pub invariant-loop-at : goal.invariant-loop-at
invariant-loop-at l =
    l.text ++ prepared_lines (drop l.at (map (λ line. line.now) l.lines)) (drop l.at l.marks)
    ≡ prepared_lines (map (λ line. line.now) l.lines) l.marks
