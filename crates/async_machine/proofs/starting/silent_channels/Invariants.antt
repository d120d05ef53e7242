use Rattle.std.proofs.Common.{◌≡◌, replicate}
use Rattle.machine_laws.specs.Channels.{silent}
use Rattle.async_machine.proofs.starting.silent_channels.Given as goal

abbrev pub invariant-loop-at : goal.invariant-loop-at
invariant-loop-at g l = l.made-inside.items.items ≡ replicate l.at silent
