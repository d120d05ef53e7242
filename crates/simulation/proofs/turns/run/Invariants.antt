use Rattle.std.proofs.Common.{◌≡◌, ◌-◌}
use Rattle.simulation.specs.Turns.{turned}
use Rattle.simulation.proofs.turns.run.Given as goal

-- the turns that are left lead on from here to where all lead
abbrev pub invariant-loop-at : goal.invariant-loop-at
invariant-loop-at l =
    (turned l.machine.net.files l.machine.destination (l.count - l.at) l.machine.state
    ≡ turned l.fn.machine.net.files l.fn.machine.destination l.count l.fn.machine.state)
    × (l.machine.net ≡ l.fn.machine.net) × (l.machine.destination ≡ l.fn.machine.destination)
