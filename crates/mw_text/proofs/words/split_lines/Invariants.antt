use Rattle.std.proofs.Common.{◌≡◌, ◌≤◌, ◌+◌, ◌++◌, length}
use Rattle.mw_text.specs.Words.{numbered, text_lines}
use Rattle.mw_text.proofs.words.split_lines.Given as goal

-- the lines so far and those of the pieces that are left, of which there are no more than bytes
abbrev pub invariant-loop-raw : goal.invariant-loop-raw
invariant-loop-raw l =
    (l.lines-inside.items.items ++ numbered (l.number + 1) l.raw-iterator ≡ text_lines l.fn.bytes) ×
    (l.number + length l.raw-iterator ≤ length l.fn.bytes)
