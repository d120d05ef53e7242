use Rattle.std.proofs.Common.{◌≡◌, ◌++◌, drop, map}
use Rattle.config_lint.specs.Asides.{cut_lines}
use Rattle.config_lint.proofs.asides.cut_text.Given as goal

-- the text so far, and the lines that are left
abbrev pub invariant-loop-at : goal.invariant-loop-at
invariant-loop-at l =
    l.text ++ cut_lines (drop l.at (map (λ line. line.now) l.lines)) (drop l.at l.flags)
    ≡ cut_lines (map (λ line. line.now) l.lines) l.flags
