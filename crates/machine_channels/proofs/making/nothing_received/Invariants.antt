use Rattle.std.proofs.Common.{◌≡◌, replicate, None}
use Rattle.machine_channels.proofs.making.nothing_received.Given as goal

abbrev pub invariant-loop-at : goal.invariant-loop-at
invariant-loop-at g l = l.made-inside.items.items ≡ replicate l.at None
