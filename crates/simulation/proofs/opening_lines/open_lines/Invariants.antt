use Rattle.std.proofs.Common.{◌≡◌, drop}
use Rattle.mw_text.specs.Reading.{in_turn}
use Rattle.simulation.specs.Opening.{next_opened}
use Rattle.simulation.proofs.opening_lines.open_lines.Given as goal

-- the lines that are left lead on from here to where all lead
abbrev pub invariant-loop-line : goal.invariant-loop-line
invariant-loop-line l =
    in_turn (next_opened l.net.files) l.said (drop l.line-index l.lines)
    ≡ in_turn (next_opened l.net.files) l.fn.said l.lines
