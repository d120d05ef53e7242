use Rattle.std.proofs.Common.{◌≡◌, drop}
use Rattle.mw_text.specs.Reading.{in_turn}
use Rattle.simulation.specs.Simulating.{next_state}
use Rattle.simulation.proofs.steps.take_lines.Given as goal

-- the lines that are left lead on from here to where all lead, over the same network and destination
abbrev pub invariant-loop-line : goal.invariant-loop-line
invariant-loop-line l =
    (in_turn (next_state l.fn.machine.net.files l.fn.machine.destination) l.machine.state (drop l.line-index l.lines)
    ≡ in_turn (next_state l.fn.machine.net.files l.fn.machine.destination) l.fn.machine.state l.lines)
    × (l.machine.net ≡ l.fn.machine.net) × (l.machine.destination ≡ l.fn.machine.destination)
