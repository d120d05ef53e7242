use Rattle.std.proofs.Common.{◌≡◌, drop}
use Rattle.ios_reader.specs.Reading.{read_lines}
use Rattle.ios_reader.proofs.reader.take_all.Given as goal

-- the draft and the lines that are left read as all lines do
abbrev pub invariant-loop-at : goal.invariant-loop-at
invariant-loop-at l = read_lines l.fn.draft l.lines ≡ read_lines l.draft (drop l.at l.lines)
