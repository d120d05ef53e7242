use Rattle.std.proofs.Common.{◌≡◌, replicate, None}
use Rattle.async_machine.proofs.starting.nothing_known.Given as goal

abbrev pub invariant-loop-at : goal.invariant-loop-at
invariant-loop-at l = l.made-inside.items.items ≡ replicate l.at None
